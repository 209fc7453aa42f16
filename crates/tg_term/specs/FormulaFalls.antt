-- Each formula of a node is less high than the node's formula.
use Rattle.std.specs.Prelude.{◌≤◌, max}
use Rattle.std.proofs.Common.{arith}
use Rattle.tg_term.specs.FormulaMeasures.{formula_height}
use Rattle.tg_term.specs.Formulas.{formula}
use Rattle.tg_term.specs.declared.formulas.FormulaNode.{FormulaNode}
use Rattle.tg_term.specs.declared.formulas.FormulaNode.TheVariants.{Atom, And, Imp, All, Ex, Thyp, Tested, Deep}
use Rattle.tg_term.specs.declared.formulas.Formula.TheDeep.{deep-FormulaNode}

pub formula_falls : (n : FormulaNode) → max (max (deep-FormulaNode n) 0) 0 ≤ formula_height (formula n)
formula_falls (Atom t) = omega arith
formula_falls (And f g) = omega arith
formula_falls (Imp f g) = omega arith
formula_falls (All t f) = omega arith
formula_falls (Ex t f) = omega arith
formula_falls (Thyp f) = omega arith
formula_falls (Tested ts) = omega arith
formula_falls (Deep k ts) = omega arith

-- The formula of a node. In a contract the formulas and the terms of a node are those of the model already.
use Rattle.tg_model.specs.Tree.{trees}
use Rattle.tg_model.specs.Formula as model
use Rattle.tg_types.specs.Types.{ty}
use Rattle.tg_term.specs.declared.formulas.FormulaNode.{FormulaNode}
use Rattle.tg_term.specs.declared.formulas.FormulaNode.TheVariants.{Atom, And, Imp, All, Ex, Thyp, Tested, Deep}

abbrev pub formula : FormulaNode → model.Formula
formula (Atom t) = model.atom t
formula (And f g) = model.both f g
formula (Imp f g) = model.implies f g
formula (All t f) = model.all (ty t) f
formula (Ex t f) = model.some (ty t) f
formula (Thyp f) = model.thyp f
formula (Tested ts) = model.tested (trees ts)
formula (Deep k ts) = model.deep k (trees ts)

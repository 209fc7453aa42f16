-- What the grammar reads in the text of a formula, and what is asked of the formula.
use Rattle.std.specs.Prelude.{ℕ, ◌+◌, ◌<◌, ◌^◌}
use Rattle.tg_model.specs.Theory.{Theory, IsClosed}
use Rattle.tg_model.specs.Tree.{Trees}
use Rattle.tg_model.specs.Tree as tree
use Rattle.tg_model.specs.Formula.{Formula, atom, both, implies, all, some, thyp, tested, deep}
use Rattle.tg_grammar.specs.declared.formulas.RawFormula.{RawFormula}
use Rattle.tg_grammar.specs.declared.formulas.RawFormula.TheVariants as formulas
use Rattle.tg_report.specs.RawTypes.{raw_ty}
use Rattle.tg_report.specs.RawTerms.{raw_term, raw_terms, HasText, HaveText}

-- a formula within `level` binders, with the names of what it uses
abbrev pub raw_formula : Theory → ℕ → Formula → RawFormula
raw_formula th level (atom t) = formulas.Atom (raw_term th level t)
raw_formula th level (both f g) = formulas.And (raw_formula th level f) (raw_formula th level g)
raw_formula th level (implies f g) = formulas.Imp (raw_formula th level f) (raw_formula th level g)
raw_formula th level (all t f) = formulas.All (raw_ty th t) (raw_formula th (level + 1) f)
raw_formula th level (some t f) = formulas.Ex (raw_ty th t) (raw_formula th (level + 1) f)
raw_formula th level (thyp f) = formulas.Thyp (raw_formula th level f)
raw_formula th level (tested ts) = formulas.Tested (raw_terms th level ts)
raw_formula th level (deep k ts) = formulas.Deep k (raw_terms th level ts)

abbrev pub HasTerm : Trees → Type 0
HasTerm tree.none = ⊥
HasTerm (tree.more t ts) = Unit {0}

-- Each of its terms has a text, each type is closed, the numbers are below 2^64, and some inputs are tested and deep.
abbrev pub FormulaHasText : Theory → ℕ → Formula → Type 0
FormulaHasText th level (atom t) = HasText th level t
FormulaHasText th level (both f g) = FormulaHasText th level f × FormulaHasText th level g
FormulaHasText th level (implies f g) = FormulaHasText th level f × FormulaHasText th level g
FormulaHasText th level (all t f) = IsClosed th t × FormulaHasText th (level + 1) f
FormulaHasText th level (some t f) = IsClosed th t × FormulaHasText th (level + 1) f
FormulaHasText th level (thyp f) = FormulaHasText th level f
FormulaHasText th level (tested ts) = HasTerm ts × HaveText th level ts
FormulaHasText th level (deep k ts) = (k < 2 ^ 64) × HasTerm ts × HaveText th level ts

-- What a formula of a certificate stands for, by the types that are given.
use Rattle.std.specs.Prelude.{◌≡◌, ℕ, List, ◌∷◌, map}
use Rattle.std.proofs.Common.{ap, sym, ◌∙◌}
use Rattle.tg_model.specs.Formula as model
use Rattle.tg_model.specs.Theory.{Theory}
use Rattle.tg_model.specs.Types as types
use Rattle.tg_accept.specs.Raw as raw
use Rattle.tg_accept.specs.Standing.{IsFormulaAt, IsFormulaOf, IsTypeOf}
use Rattle.tg_grammar.specs.declared.types.RawTy.{RawTy}
use Rattle.tg_grammar.specs.declared.terms.RawTerm.{RawTerm}
use Rattle.tg_grammar.specs.declared.formulas.RawFormula.{RawFormula, fold-RawFormula}
use Rattle.tg_grammar.specs.declared.formulas.RawFormula.TheFolds.{fold-roll-RawFormula}
use Rattle.tg_grammar.specs.declared.formulas.RawFormula.TheOpen.{RawFormula-F}
use Rattle.tg_grammar.specs.declared.formulas.RawFormula.TheVariants.{Atom, And, Imp, All, Ex, Thyp, Tested, Deep, rolls-Atom, rolls-And, rolls-Imp, rolls-All, rolls-Ex, rolls-Thyp, rolls-Tested, rolls-Deep}
use Rattle.tg_infer.specs.View.{raw_term, raw_terms, raw_type}
use Rattle.tg_shared_types.specs.Growth.{AreDeclared}
use Rattle.tg_types.specs.declared.types.Ty.{Ty}
use Rattle.tg_types.specs.Types.{ty, types as types_of}

-- one level, with each formula below it already seen
abbrev pub formula_step : RawFormula-F raw.RawFormula → raw.RawFormula
formula_step (RawFormula-F.Atom t) = raw.raw_atom (raw_term t)
formula_step (RawFormula-F.And f g) = raw.raw_both f g
formula_step (RawFormula-F.Imp f g) = raw.raw_implies f g
formula_step (RawFormula-F.All t f) = raw.raw_all (raw_type t) f
formula_step (RawFormula-F.Ex t f) = raw.raw_some (raw_type t) f
formula_step (RawFormula-F.Thyp f) = raw.raw_thyp f
formula_step (RawFormula-F.Tested ts) = raw.raw_tested (raw_terms ts)
formula_step (RawFormula-F.Deep k ts) = raw.raw_deep k (raw_terms ts)

abbrev pub raw_formula : RawFormula → raw.RawFormula
raw_formula = fold-RawFormula raw.RawFormula formula_step

pub raw_formula-Atom : (t : RawTerm) → raw_formula (Atom t) ≡ raw.raw_atom (raw_term t)
raw_formula-Atom t = ap raw_formula (sym (rolls-Atom t)) ∙ fold-roll-RawFormula raw.RawFormula formula_step _

pub raw_formula-And : (f g : RawFormula) → raw_formula (And f g) ≡ raw.raw_both (raw_formula f) (raw_formula g)
raw_formula-And f g = ap raw_formula (sym (rolls-And f g)) ∙ fold-roll-RawFormula raw.RawFormula formula_step _

pub raw_formula-Imp : (f g : RawFormula) → raw_formula (Imp f g) ≡ raw.raw_implies (raw_formula f) (raw_formula g)
raw_formula-Imp f g = ap raw_formula (sym (rolls-Imp f g)) ∙ fold-roll-RawFormula raw.RawFormula formula_step _

pub raw_formula-All : (t : RawTy) (f : RawFormula) → raw_formula (All t f) ≡ raw.raw_all (raw_type t) (raw_formula f)
raw_formula-All t f = ap raw_formula (sym (rolls-All t f)) ∙ fold-roll-RawFormula raw.RawFormula formula_step _

pub raw_formula-Ex : (t : RawTy) (f : RawFormula) → raw_formula (Ex t f) ≡ raw.raw_some (raw_type t) (raw_formula f)
raw_formula-Ex t f = ap raw_formula (sym (rolls-Ex t f)) ∙ fold-roll-RawFormula raw.RawFormula formula_step _

pub raw_formula-Thyp : (f : RawFormula) → raw_formula (Thyp f) ≡ raw.raw_thyp (raw_formula f)
raw_formula-Thyp f = ap raw_formula (sym (rolls-Thyp f)) ∙ fold-roll-RawFormula raw.RawFormula formula_step _

pub raw_formula-Tested : (ts : List RawTerm) → raw_formula (Tested ts) ≡ raw.raw_tested (raw_terms ts)
raw_formula-Tested ts = ap raw_formula (sym (rolls-Tested ts)) ∙ fold-roll-RawFormula raw.RawFormula formula_step _

pub raw_formula-Deep : (k : ℕ) (ts : List RawTerm) → raw_formula (Deep k ts) ≡ raw.raw_deep k (raw_terms ts)
raw_formula-Deep k ts = ap raw_formula (sym (rolls-Deep k ts)) ∙ fold-roll-RawFormula raw.RawFormula formula_step _

-- the text stands for the formula, where no open type stands in one that is given
pub record IsFormulaIn (th : Theory) (vars : List Ty) (r : raw.RawFormula) (f : model.Formula) : Type 0 where
  pub variables : AreDeclared (types_of vars)
  pub stands : IsFormulaOf th (map ty vars) r f

-- two formulas
abbrev pub AreBoth : Theory → List types.Ty → List types.Ty → raw.RawFormula → raw.RawFormula → model.Formula × model.Formula → Type 0
AreBoth th vars locs f g x = IsFormulaAt th vars locs f x.0 × IsFormulaAt th vars locs g x.1

-- the type of a quantifier and the formula under it
abbrev pub IsQuantified : Theory → List types.Ty → List types.Ty → raw.RawType → raw.RawFormula → types.Ty × model.Formula → Type 0
IsQuantified th vars locs t f x = IsTypeOf th t x.0 × IsFormulaAt th vars (x.0 ∷ locs) f x.1

abbrev pub typed_formula : Ty × model.Formula → types.Ty × model.Formula
typed_formula x = (ty x.0, x.1)

-- What texts are read as, and what has no text, known by hand.
use Rattle.std.specs.Prelude.{◌≡◌, ◌∷◌, [], codes, true, false}
use Rattle.std.proofs.Common.{refl, arith}
use Rattle.tg_model.specs.Tree.{one, two, none, bound, free, literal, truth, con, call, put, choice, case, bind, op, end, arm, less, plus, unnamed}
use Rattle.tg_model.specs.Types as types
use Rattle.tg_model.specs.Formula as formulas
use Rattle.tg_grammar.specs.declared.types.RawTy.TheVariants as raw_types
use Rattle.tg_grammar.specs.declared.terms.RawTerm.TheVariants as raw
use Rattle.tg_grammar.specs.declared.terms.RawCon.TheVariants as constructors
use Rattle.tg_grammar.specs.declared.terms.Binder.TheVariants as binders
use Rattle.tg_grammar.specs.declared.formulas.RawFormula.TheVariants as raw_formulas
use Rattle.tg_report.specs.RawTypes.{raw_ty}
use Rattle.tg_report.specs.RawTerms.{raw_term, raw_branch, HasText}
use Rattle.tg_report.specs.RawFormulas.{raw_formula, FormulaHasText}
use Rattle.tg_report.proofs.KnownTexts.{sample}

two_arguments : raw_ty sample (types.applied 2 (types.more types.nat (types.more (types.applied 1 (types.more types.bool types.none)) types.none)))
    ≡ raw_types.Word (codes "pair") (raw_types.Nat ∷ raw_types.Word (codes "list") (raw_types.Bool ∷ []) ∷ [])
two_arguments = refl

-- the variable of a `let` in one other binder is `!2`
bound_second : raw_term sample 1 (bind (free 3) (op plus (two (bound 0) (bound 1))))
    ≡ raw.Let (binders.Level 2) (raw.Free 3 ∷ raw.Op 9 (raw.Bound 2 ∷ raw.Bound 1 ∷ []) ∷ [])
bound_second = refl

-- the first variable of a branch is the outer one
branches : raw_term sample 0 (case 1 (con 1 none) (arm 0 (truth true) (arm 2 (put (one (bound 1))) end)))
    ≡ raw.Case (raw.Use (codes "Nil") [] ∷ [])
    (raw_branch (constructors.Named (codes "Nil")) [] (raw.Truth true)
    ∷ raw_branch (constructors.Named (codes "Cons")) (binders.Level 1 ∷ binders.Level 2 ∷ []) (raw.Use (codes "put") (raw.Bound 1 ∷ [])) ∷ [])
branches = refl

naturals : raw_term sample 0 (case 0 (literal 7) (arm 0 (truth true) (arm 1 (truth false) end)))
    ≡ raw.Case (raw.Num 7 ∷ [])
    (raw_branch constructors.Zero [] (raw.Truth true) ∷ raw_branch constructors.Suc (binders.Level 1 ∷ []) (raw.Truth false) ∷ [])
naturals = refl

quantified : raw_formula sample 0 (formulas.all types.nat (formulas.deep 3 (one (bound 0))))
    ≡ raw_formulas.All raw_types.Nat (raw_formulas.Deep 3 (raw.Bound 1 ∷ []))
quantified = refl

-- ---- what has a text, and what has none

a_text : FormulaHasText sample 0 (formulas.all types.nat (formulas.atom (op less (two (bound 0) (literal 7)))))
a_text = (tt, (refl, ((omega arith, omega arith), (omega arith, tt))))

unbound : ¬ HasText sample 0 (bound 0)
unbound h = omega (arith, h.0)

undeclared : ¬ HasText sample 0 (con 4 none)
undeclared h = cc

no_function : ¬ HasText sample 0 (call 1 none)
no_function h = cc

half_choice : ¬ HasText sample 0 (choice (two (truth true) (truth false)))
half_choice h = cc

no_branch : ¬ HasText sample 0 (case 1 (con 1 none) end)
no_branch h = h.1

too_many_variables : ¬ HasText sample 0 (case 0 (literal 7) (arm 1 (truth true) end))
too_many_variables h = cc

one_operand : ¬ HasText sample 0 (op plus (one (literal 7)))
one_operand h = cc

no_operator : ¬ HasText sample 0 (op (unnamed 14) (two (literal 7) (literal 7)))
no_operator h = h.0

too_great : ¬ HasText sample 0 (literal 18446744073709551616)
too_great h = omega (arith, h)

no_input : ¬ FormulaHasText sample 0 (formulas.tested none)
no_input h = h.0

open_type : ¬ FormulaHasText sample 0 (formulas.all (types.parameter 1) (formulas.atom (truth true)))
open_type h = h.0

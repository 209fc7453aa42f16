-- Known formulas: which connective each is, and that a quantifier keeps its type.
use Rattle.std.proofs.Common.{◌≡◌, ap, ◌∙◌}
use Rattle.tg_accept.specs.Raw as raw
use Rattle.tg_grammar.specs.declared.terms.RawTerm.TheVariants as terms
use Rattle.tg_grammar.specs.declared.types.RawTy.TheVariants as types
use Rattle.tg_grammar.specs.declared.formulas.RawFormula.TheVariants.{Atom, Imp, All, Ex}
use Rattle.tg_infer.specs.View.{raw_type-Nat, raw_type-Bool, raw_term-Bound, raw_term-Free}
use Rattle.tg_standing.specs.Formulas.{raw_formula, raw_formula-Atom, raw_formula-Imp, raw_formula-All, raw_formula-Ex}

bound_one : raw_formula (Atom (terms.Bound 1)) ≡ raw.raw_atom (raw.bang 1)
bound_one = raw_formula-Atom (terms.Bound 1) ∙ ap raw.raw_atom (raw_term-Bound 1)

free_two : raw_formula (Atom (terms.Free 2)) ≡ raw.raw_atom (raw.question 2)
free_two = raw_formula-Atom (terms.Free 2) ∙ ap raw.raw_atom (raw_term-Free 2)

all_nat : raw_formula (All types.Nat (Atom (terms.Bound 1))) ≡ raw.raw_all raw.natural_type (raw.raw_atom (raw.bang 1))
all_nat = raw_formula-All types.Nat (Atom (terms.Bound 1)) ∙ (λ i. raw.raw_all (raw_type-Nat i) (bound_one i))

some_bool : raw_formula (Ex types.Bool (Atom (terms.Bound 1))) ≡ raw.raw_some raw.truth_type (raw.raw_atom (raw.bang 1))
some_bool = raw_formula-Ex types.Bool (Atom (terms.Bound 1)) ∙ (λ i. raw.raw_some (raw_type-Bool i) (bound_one i))

implied : raw_formula (Imp (Atom (terms.Bound 1)) (Atom (terms.Free 2))) ≡ raw.raw_implies (raw.raw_atom (raw.bang 1)) (raw.raw_atom (raw.question 2))
implied = raw_formula-Imp (Atom (terms.Bound 1)) (Atom (terms.Free 2)) ∙ (λ i. raw.raw_implies (bound_one i) (free_two i))

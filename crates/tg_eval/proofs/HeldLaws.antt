-- Lists of values, from a place on.
use Rattle.std.proofs.Common.{ℕ, zero, suc, ◌≡◌, ◌<◌, ◌+◌, List, [], ◌∷◌, drop, length, get_or, Some, refl, ap, sym, ◌∙◌, add-one, arith}
use Rattle.std.specs.Prelude.{slice_get}
use Rattle.tg_model.specs.Value.{Value, values, more, elements}
use Rattle.tg_term.specs.Values.{value-Nat, value-Bool, value-Con}
use Rattle.tg_term.proofs.PartLaws.{drop_at}
use Rattle.tg_eval.specs.Sizes.{height, heights}

pub held_from : (vs : List Value) (i : ℕ) (v : Value) → slice_get vs i ≡ Some v → values (drop i vs) ≡ more v (values (drop (i + 1) vs))
held_from vs i v e = ap values (drop_at vs i v e ∙ ap (λ n. v ∷ drop n vs) (sym (add-one i)))

pub held_height : (vs : List Value) (i : ℕ) (d : Value) → i < length vs → height (get_or vs i d) < heights (values vs)
held_height [] i d h = absurd (omega arith)
held_height (v ∷ vs) zero d h = omega arith
held_height (v ∷ vs) (suc i) d h = let k = held_height vs i d (omega arith) in omega arith

pub elements_values : (vs : List Value) → elements (values vs) ≡ vs
elements_values [] = refl
elements_values (v ∷ vs) = ap (λ rest. v ∷ rest) (elements_values vs)

pub ruleset measuring = (held_from)

pub ruleset converting = (value-Nat, value-Bool, value-Con, held_height)

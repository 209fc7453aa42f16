-- Lists of values, and what a pattern makes of them.
use Rattle.std.proofs.Common.{ℕ, zero, suc, ◌≡◌, ◌+◌, Bool, true, false, ◌&&◌, List, [], ◌∷◌, map, length, drop, Some, None, refl, ap, sym, ◌∙◌, add-one}
use Rattle.std.specs.Prelude.{slice_get, option_map, unwrap_or}
use Rattle.std.proofs.lemmas.Option.{slice_get-map}
use Rattle.tg_model.specs.Tree.{Tree, trees, free}
use Rattle.tg_model.specs.Theory.{numbered}
use Rattle.tg_model.specs.Value as sem
use Rattle.tg_model.specs.Filling.{filled_term, fill}
use Rattle.tg_term.specs.Values.{value, values, value-Nat, value-Bool, value-Con}
use Rattle.tg_term.specs.declared.values.Value.{Value}
use Rattle.tg_term.proofs.PartLaws.{drop_at}
use Rattle.tg_term.proofs.ListHeights.{height_at}

pub values_from : (vs : List Value) (i : ℕ) (v : Value) → slice_get vs i ≡ Some v → values (drop i vs) ≡ sem.more (value v) (values (drop (i + 1) vs))
values_from vs i v e = ap values (drop_at vs i v e ∙ ap (λ n. v ∷ drop n vs) (sym (add-one i)))

pub same_truths : (p q : Bool) → sem.same_value (sem.boolean p) (sem.boolean q) ≡ sem.same_truth p q
same_truths p q = refl

pub fill_trees : (vs : List sem.Value) (ts : List Tree) → fill vs (trees ts) ≡ map (filled_term vs) ts
fill_trees vs [] = refl
fill_trees vs (t ∷ ts) = ap (λ rest. filled_term vs t ∷ rest) (fill_trees vs ts)

-- the value of a variable by its number
numbered_map : (vs : List Value) (n : ℕ) → numbered (map value vs) n ≡ option_map value (numbered vs n)
numbered_map vs zero = refl
numbered_map vs (suc i) = slice_get-map value vs i

pub value_there : (vs : List Value) (n : ℕ) (v : Value) → Some v ≡ numbered vs n → value v ≡ filled_term (map value vs) (free n)
value_there vs n v e = ap (λ o. unwrap_or o sem.wrong) (ap (option_map value) e ∙ sym (numbered_map vs n))

pub no_value_there : (vs : List Value) (n : ℕ) → None ≡ numbered vs n → sem.wrong ≡ filled_term (map value vs) (free n)
no_value_there vs n e = ap (λ o. unwrap_or o sem.wrong) (ap (option_map value) e ∙ sym (numbered_map vs n))

and_false : (b : Bool) → false ≡ (b && false)
and_false true = refl
and_false false = refl

pub other_lengths : (vs ws : List Value) → ¬ (length vs ≡ length ws) → false ≡ sem.same_values (values vs) (values ws)
other_lengths [] [] h = absurd (h refl)
other_lengths [] (w ∷ ws) h = refl
other_lengths (v ∷ vs) [] h = refl
other_lengths (v ∷ vs) (w ∷ ws) h =
    and_false (sem.same_value (value v) (value w)) ∙ ap (λ b. sem.same_value (value v) (value w) && b) (other_lengths vs ws (λ e. h (ap suc e)))

pub ruleset compared = (value-Nat, value-Bool, value-Con, same_truths)

pub ruleset filling = (value-Nat, value-Bool, value-Con, height_at, fill_trees)

pub ruleset numbering = (value-Bool, value_there, no_value_there)

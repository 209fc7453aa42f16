-- Terms of constructors, variables and truth values alone stay as they are.
use Rattle.std.proofs.Common.{ℕ, ◌≡◌, Bool, true, false, ◌||◌, List, [], ◌∷◌, refl, ap}
use Rattle.tg_model.specs.Tree as tree
use Rattle.tg_model.specs.Tree.{Tree, Trees, bound, free, literal, truth, con, call, put, choice, case, bind, op}
use Rattle.tg_model.specs.Value.{Value, made, values}
use Rattle.tg_model.specs.Denotation.{World, value_in, values_in, world}
use Rattle.tg_model.specs.Walk.{walk, walk_all, as_free}
use Rattle.tg_model.specs.Calls.{has_call, have_call}
use Rattle.tg_model.specs.Made.{IsMade, AreMade, MadeTermsStay}

module _ (w : World) (env loc : List Value) where
  mutual
    one_value : (t : Tree) → IsMade t → value_in w env loc t ≡ value_in w env [] t
    one_value (free n) m = refl
    one_value (truth b) m = refl
    one_value (con c ts) m = ap (λ vs. made c (values vs)) (one_values ts m)
    one_value t m = absurd m

    one_values : (ts : Trees) → AreMade ts → values_in w env loc ts ≡ values_in w env [] ts
    one_values tree.none m = refl
    one_values (tree.more t ts) m = λ i. one_value t m.0 i ∷ one_values ts m.1 i

neither : (a b : Bool) → a ≡ false → b ≡ false → (a || b) ≡ false
neither true b e f = cc
neither false b e f = f

mutual
  no_calls : (t : Tree) → IsMade t → has_call t ≡ false
  no_calls (free n) m = refl
  no_calls (truth b) m = refl
  no_calls (con c ts) m = none_calls ts m
  no_calls t m = absurd m

  none_calls : (ts : Trees) → AreMade ts → have_call ts ≡ false
  none_calls tree.none m = refl
  none_calls (tree.more t ts) m = neither (has_call t) (have_call ts) (no_calls t m.0) (none_calls ts m.1)

module _ (on_bound : ℕ → ℕ → Tree) (d : ℕ) where
  mutual
    walked_back : (t : Tree) → IsMade t → walk on_bound as_free d t ≡ t
    walked_back (free n) m = refl
    walked_back (truth b) m = refl
    walked_back (con c ts) m = ap (con c) (all_walked_back ts m)
    walked_back t m = absurd m

    pub all_walked_back : (ts : Trees) → AreMade ts → walk_all on_bound as_free d ts ≡ ts
    all_walked_back tree.none m = refl
    all_walked_back (tree.more t ts) m = λ i. tree.more (walked_back t m.0 i) (all_walked_back ts m.1 i)

pub made_terms_stay : MadeTermsStay
made_terms_stay t m = record {
  value = λ th tb env loc. one_value (world th tb) env loc t m;
  no_call = no_calls t m;
  walked = λ on_bound d. walked_back on_bound d t m;
}

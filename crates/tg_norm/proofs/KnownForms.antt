-- Walks that are known by hand.
use Rattle.std.proofs.Common.{◌≡◌, Bool, true, false, [], ◌∷◌, refl, ap, arith}
use Rattle.tg_model.specs.Tree as tree
use Rattle.tg_model.specs.Tree.{Tree, bound, free, literal, truth, con, call, choice, case, bind, op, one, two, trees, successor, negation, conjunction, equality, plus}
use Rattle.tg_model.proofs.KnownValues.{sorting}
use Rattle.tg_norm.specs.Normal.{Walked, Norm, at_leaf, at_end, at_step, AllNorm, at_none, at_more, leaf_walk, no_walks, joined, step_of, arguments, is_leaf, IsWithin, IsPassed}
use Rattle.tg_norm.proofs.OneWalk.{one_walk}

abbrev Is : Tree → Walked → Type 0
Is = Norm sorting

leaf : (t : Tree) → is_leaf t ≡ true → Is t (leaf_walk t)
leaf t e = at_leaf e refl

parts_one : (w : Walked) (t : Tree) → Is t w → AllNorm sorting (t ∷ []) (joined w no_walks)
parts_one w t n = at_more w no_walks n (at_none refl) refl

parts_two : (w v : Walked) (t u : Tree) → Is t w → Is u v → AllNorm sorting (t ∷ u ∷ []) (joined w (joined v no_walks))
parts_two w v t u n m = at_more w (joined v no_walks) n (parts_one v u m) refl

abbrev next : Tree → Tree
next t = op successor (one t)

abbrev not : Tree → Tree
not t = op negation (one t)

abbrev equal : Tree → Tree → Tree
equal t u = op equality (two t u)

-- `Suc ?1 = 3` is `?1 = 2`: the first call, `Suc ?1`, `?1`, `3`, then the result, `?1` and `2`
abbrev next_walk : Walked
next_walk = record { form = next (free 1); cost = 2; rise = 1; steps = [] }

next_is : Is (next (free 1)) next_walk
next_is = at_end (joined (leaf_walk (free 1)) no_walks) refl (parts_one (leaf_walk (free 1)) (free 1) (leaf (free 1) refl)) refl (omega arith) refl

abbrev two_walk : Walked
two_walk = record { form = equal (free 1) (literal 2); cost = 3; rise = 1; steps = [] }

two_is : Is (equal (free 1) (literal 2)) two_walk
two_is = at_end (joined (leaf_walk (free 1)) (joined (leaf_walk (literal 2)) no_walks)) refl
    (parts_two (leaf_walk (free 1)) (leaf_walk (literal 2)) (free 1) (literal 2) (leaf (free 1) refl) (leaf (literal 2) refl)) refl (omega arith) refl

abbrev three_walk : Walked
three_walk = record {
  form = equal (free 1) (literal 2);
  cost = 7;
  rise = 2;
  steps = step_of 36 (equal (next (free 1)) (literal 3)) (equal (free 1) (literal 2)) ∷ [];
}

three_is : Is (equal (next (free 1)) (literal 3)) three_walk
three_is = at_step (joined next_walk (joined (leaf_walk (literal 3)) no_walks)) 36 (equal (free 1) (literal 2)) two_walk refl
    (parts_two next_walk (leaf_walk (literal 3)) (next (free 1)) (literal 3) next_is (leaf (literal 3) refl)) refl (omega arith) two_is refl

-- 7 calls on 3 levels are enough, 6 calls or 2 levels aren't
three_within : IsWithin 7 3 three_walk
three_within = record { calls = omega arith; high = omega arith }

three_calls : IsPassed sorting 6 1000 (equal (next (free 1)) (literal 3))
three_calls = record { none = λ w n h. let e : w.cost ≡ 7 = ap (λ (x : Walked). x.cost) (one_walk sorting _ w three_walk n three_is) in omega (arith, e, h.calls) }

three_levels : IsPassed sorting 1000 2 (equal (next (free 1)) (literal 3))
three_levels = record { none = λ w n h. let e : w.rise ≡ 2 = ap (λ (x : Walked). x.rise) (one_walk sorting _ w three_walk n three_is) in omega (arith, e, h.high) }

-- a term is on level 1, and an argument 999 levels further is on the last
last_level : IsWithin 1 1000 (record { form = free 1; cost = 1; rise = 999; steps = [] })
last_level = record { calls = omega arith; high = omega arith }

one_further : ¬ (IsWithin 1 1000 (record { form = free 1; cost = 1; rise = 1000; steps = [] }))
one_further h = omega (arith, h.high)

-- `~ ~ ?1 & ~ False` is `?1`: the steps of the left side, those of the right side, and that of the whole
abbrev denied_walk : Walked
denied_walk = record { form = not (free 1); cost = 2; rise = 1; steps = [] }

denied_is : Is (not (free 1)) denied_walk
denied_is = at_end (joined (leaf_walk (free 1)) no_walks) refl (parts_one (leaf_walk (free 1)) (free 1) (leaf (free 1) refl)) refl (omega arith) refl

abbrev left_walk : Walked
left_walk = record { form = free 1; cost = 4; rise = 2; steps = step_of 3 (not (not (free 1))) (free 1) ∷ [] }

left_is : Is (not (not (free 1))) left_walk
left_is = at_step (joined denied_walk no_walks) 3 (free 1) (leaf_walk (free 1)) refl (parts_one denied_walk (not (free 1)) denied_is) refl (omega arith) (leaf (free 1) refl) refl

abbrev truth_walk : (b : Bool) → Walked
truth_walk b = record { form = truth b; cost = 1; rise = 0; steps = [] }

truth_is : (b : Bool) → Is (truth b) (truth_walk b)
truth_is b = at_end no_walks refl (at_none refl) refl (omega arith) refl

abbrev right_walk : Walked
right_walk = record { form = truth true; cost = 3; rise = 1; steps = step_of 2 (not (truth false)) (truth true) ∷ [] }

right_is : Is (not (truth false)) right_walk
right_is = at_step (joined (truth_walk false) no_walks) 2 (truth true) (truth_walk true) refl (parts_one (truth_walk false) (truth false) (truth_is false)) refl (omega arith) (truth_is true) refl

both_is : Is (op conjunction (two (not (not (free 1))) (not (truth false)))) (record {
  form = free 1;
  cost = 9;
  rise = 3;
  steps = step_of 3 (not (not (free 1))) (free 1) ∷ step_of 2 (not (truth false)) (truth true)
      ∷ step_of 6 (op conjunction (two (free 1) (truth true))) (free 1) ∷ [];
})
both_is = at_step (joined left_walk (joined right_walk no_walks)) 6 (free 1) (leaf_walk (free 1)) refl
    (parts_two left_walk right_walk (not (not (free 1))) (not (truth false)) left_is right_is) refl (omega arith) (leaf (free 1) refl) refl

-- of `if ?1 then ~ ~ ?2 else ?3` the condition alone is normalised, of `let x = 2 in ~ ~ x` nothing is before the `let` is gone
choice_alone : arguments (choice (trees (free 1 ∷ not (not (free 2)) ∷ free 3 ∷ []))) ≡ free 1 ∷ []
choice_alone = refl

scrutinee_alone : arguments (case 0 (free 1) (tree.arm 0 (not (truth true)) tree.end)) ≡ free 1 ∷ []
scrutinee_alone = refl

term_alone : arguments (bind (literal 2) (not (not (bound 0)))) ≡ literal 2 ∷ []
term_alone = refl

choice_is : Is (choice (trees (free 1 ∷ not (not (free 2)) ∷ free 3 ∷ []))) (record {
  form = choice (trees (free 1 ∷ not (not (free 2)) ∷ free 3 ∷ []));
  cost = 2;
  rise = 1;
  steps = [];
})
choice_is = at_end (joined (leaf_walk (free 1)) no_walks) refl (parts_one (leaf_walk (free 1)) (free 1) (leaf (free 1) refl)) refl (omega arith) refl

-- `double 3` is 6: it is unfolded to `3 + 3`, whose arguments are normalised
abbrev sum_walk : Walked
sum_walk = record { form = literal 6; cost = 4; rise = 1; steps = step_of 40 (op plus (two (literal 3) (literal 3))) (literal 6) ∷ [] }

sum_is : Is (op plus (two (literal 3) (literal 3))) sum_walk
sum_is = at_step (joined (leaf_walk (literal 3)) (joined (leaf_walk (literal 3)) no_walks)) 40 (literal 6) (leaf_walk (literal 6)) refl
    (parts_two (leaf_walk (literal 3)) (leaf_walk (literal 3)) (literal 3) (literal 3) (leaf (literal 3) refl) (leaf (literal 3) refl)) refl (omega arith) (leaf (literal 6) refl) refl

double_is : Is (call 4 (one (literal 3))) (record {
  form = literal 6;
  cost = 6;
  rise = 1;
  steps = step_of 26 (call 4 (one (literal 3))) (op plus (two (literal 3) (literal 3))) ∷ step_of 40 (op plus (two (literal 3) (literal 3))) (literal 6) ∷ [];
})
double_is = at_step (joined (leaf_walk (literal 3)) no_walks) 26 (op plus (two (literal 3) (literal 3))) sum_walk refl
    (parts_one (leaf_walk (literal 3)) (literal 3) (leaf (literal 3) refl)) refl (omega arith) sum_is refl

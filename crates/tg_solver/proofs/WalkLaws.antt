-- The walk: one variable more, one number more, and numbers that can't reach the greatest one.
use Rattle.std.proofs.Common.{ℕ, zero, suc, ◌≡◌, ◌+◌, ◌-◌, ◌<◌, ◌≤◌, inl, inr, max, Bool, true, false, ◌&&◌, cond, nat_eq, List, [], ◌∷◌, ◌++◌, map, length, Option, Some, None, option_map, refl, ap, sym, ◌∙◌, arith, append-nil, if◌then◌else◌}
use Rattle.std.specs.Option.{option_or}
use Rattle.std.specs.List.{find, flat_map, list_all, range_with_len}
use Rattle.std.proofs.lemmas.Bool.{cases_lt, ne_eqb}
use Rattle.std.proofs.lemmas.List.Folds.{find-append}
use Rattle.tg_model.specs.Tree.{Tree}
use Rattle.tg_model.specs.Value.{Value}
use Rattle.tg_solver.specs.Numbers.{as_value, as_values, assignments, greatest, last_number}
use Rattle.tg_solver.specs.Walk.{passes, completes, completion, completion_from, completion_at, ended, truths_in, first_completion}
use Rattle.tg_solver.specs.declared.stages.Stage.{Stage}
use Rattle.tg_solver.proofs.FindLaws.{find_of_map, same_test, none_passes}

and_false : (a : Bool) → (a && false) ≡ false
and_false true = refl
and_false false = refl

last_within : (g : ℕ) (truth : Bool) → last_number g truth ≤ g
last_within g true = omega arith
last_within g false = omega arith

module _ (test : List Value → Tree → Bool) (g : ℕ) where
  pub none_left : (most reached : ℕ) (vars : List Value) (stages : List Stage) → length stages ≡ 0 → reached ≡ g
      → (nat_eq most reached, vars) ≡ ended vars (truths_in stages) (completion test g most vars stages)
  unfolding completion
  none_left most reached vars (s ∷ stages) e r = absurd (omega arith)
  none_left most reached vars [] e r =
      ap (λ n. (nat_eq most n, vars)) r ∙ by (nat_eq most g) ∙ ap (λ m. ended vars [] (cond (nat_eq m g && true) (Some []) None)) (let s : most ≡ max most 0 = omega arith in s)
    where
      by : (b : Bool) → (b, vars) ≡ ended vars [] (cond (b && true) (Some []) None)
      by true = ap (λ l. (true, l)) (sym (append-nil vars))
      by false = refl

  module _ (most : ℕ) (vars : List Value) (s : Stage) (stages : List Stage) where
    number_tried : (n : ℕ) → find (completes test g most vars (s ∷ stages)) (map (λ ns. n ∷ ns) (assignments g (truths_in stages)))
        ≡ option_map (λ ns. n ∷ ns) (completion_at test g most vars s stages n)
    unfolding completion
    number_tried n =
        find_of_map (completes test g most vars (s ∷ stages)) (λ ns. n ∷ ns) (assignments g (truths_in stages))
        ∙ ap (option_map (λ ns. n ∷ ns)) (by (list_all (test (vars ++ as_value s.truth n ∷ [])) s.decided))
      where
        by : (b : Bool) → find (λ ns. nat_eq (max most (max n (greatest ns))) g && (b && passes test (vars ++ as_value s.truth n ∷ []) stages ns)) (assignments g (truths_in stages))
            ≡ (if b then find (completes test g (max most n) (vars ++ as_value s.truth n ∷ []) stages) (assignments g (truths_in stages)) else None)
        by true = same_test (λ ns. nat_eq (max most (max n (greatest ns))) g && passes test (vars ++ as_value s.truth n ∷ []) stages ns)
            (completes test g (max most n) (vars ++ as_value s.truth n ∷ []) stages)
            (λ ns. ap (λ m. nat_eq m g && passes test (vars ++ as_value s.truth n ∷ []) stages ns)
            (let same : max most (max n (greatest ns)) ≡ max (max most n) (greatest ns) = omega arith in same))
            (assignments g (truths_in stages))
        by false = none_passes (λ ns. nat_eq (max most (max n (greatest ns))) g && false)
            (λ ns. and_false (nat_eq (max most (max n (greatest ns))) g)) (assignments g (truths_in stages))

    pub from_none : (from : ℕ) → completion_from test g most vars s stages from 0 ≡ None
    unfolding completion_from
    from_none from = refl

    pub from_more : (from count : ℕ) → completion_from test g most vars s stages from (suc count)
        ≡ option_or (option_map (λ ns. from ∷ ns) (completion_at test g most vars s stages from)) (completion_from test g most vars s stages (from + 1) count)
    unfolding completion_from
    from_more from count =
        find-append (completes test g most vars (s ∷ stages)) (map (λ ns. from ∷ ns) (assignments g (truths_in stages)))
        (flat_map (λ n. map (λ ns. n ∷ ns) (assignments g (truths_in stages))) (range_with_len (from + 1) count))
        ∙ ap (λ o. option_or o (find (completes test g most vars (s ∷ stages))
        (flat_map (λ n. map (λ ns. n ∷ ns) (assignments g (truths_in stages))) (range_with_len (from + 1) count)))) (number_tried from)

    pub from_all : completion test g most vars (s ∷ stages) ≡ completion_from test g most vars s stages 0 (last_number g s.truth + 1)
    unfolding completion completion_from
    from_all = refl

  -- the last variable has to have the greatest number, if none before has it
  below_none : (most : ℕ) (vars : List Value) (s : Stage) (n : ℕ) → most < g → n < g → completion_at test g most vars s [] n ≡ None
  unfolding completion
  below_none most vars s n l k = by (list_all (test (vars ++ as_value s.truth n ∷ [])) s.decided)
    where
      by : (b : Bool) → ◌≡◌ {A = Option (List ℕ)} (if b then cond (nat_eq (max (max most n) 0) g && true) (Some []) None else None) None
      by true = ap (λ b. cond (b && true) (Some []) None) (ne_eqb (max (max most n) 0) g (λ e. omega arith))
      by false = refl

  skipped_to : (most : ℕ) (vars : List Value) (s : Stage) → most < g → (k from count : ℕ) → from + k ≤ g
      → completion_from test g most vars s [] from (k + count) ≡ completion_from test g most vars s [] (from + k) count
  skipped_to most vars s l zero from count le =
      λ i. completion_from test g most vars s [] (let e : from ≡ from + 0 = omega arith in e i) (let e : 0 + count ≡ count = omega arith in e i)
  skipped_to most vars s l (suc k) from count le =
      ap (completion_from test g most vars s [] from) (let e : suc k + count ≡ suc (k + count) = omega arith in e)
      ∙ from_more most vars s [] from (k + count)
      ∙ ap (λ o. option_or (option_map (λ ns. from ∷ ns) o) (completion_from test g most vars s [] (from + 1) (k + count))) (below_none most vars s from l (omega arith))
      ∙ skipped_to most vars s l k (from + 1) count (omega arith)
      ∙ ap (λ n. completion_from test g most vars s [] n count) (let e : from + 1 + k ≡ from + suc k = omega arith in e)

  pub skipped : (most : ℕ) (vars : List Value) (s : Stage) → most < g
      → completion_from test g most vars s [] 0 (last_number g s.truth + 1) ≡ completion_from test g most vars s [] g (last_number g s.truth + 1 - g)
  skipped most vars s l = by (last_number g s.truth) (last_within g s.truth)
    where
      by : (last : ℕ) → last ≤ g → completion_from test g most vars s [] 0 (last + 1) ≡ completion_from test g most vars s [] g (last + 1 - g)
      by last le = elim (cases_lt last g) [
        | inr ge ↦ ap (completion_from test g most vars s [] 0) (let c : last + 1 ≡ g + 1 = omega arith in c)
            ∙ skipped_to most vars s l g 0 1 (omega arith)
            ∙ (λ i. completion_from test g most vars s [] (let c : 0 + g ≡ g = omega arith in c i) (let c : 1 ≡ last + 1 - g = omega arith in c i))
        | inl lt ↦ ap (completion_from test g most vars s [] 0) (let c : last + 1 ≡ last + 1 + 0 = omega arith in c)
            ∙ skipped_to most vars s l (last + 1) 0 0 (omega arith)
            ∙ from_none most vars s [] (0 + (last + 1)) ∙ sym (from_none most vars s [] g)
            ∙ ap (completion_from test g most vars s [] g) (let c : 0 ≡ last + 1 - g = omega arith in c)
      ]

  pub worth_all : (most : ℕ) (vars : List Value) (s : Stage) (stages : List Stage)
      → completion test g most vars (s ∷ stages) ≡ completion_from test g most vars s stages 0 (last_number g s.truth + 1 - 0)
  worth_all most vars s stages =
      from_all most vars s stages ∙ ap (completion_from test g most vars s stages 0) (let e : last_number g s.truth + 1 ≡ last_number g s.truth + 1 - 0 = omega arith in e)

  pub worth_greatest : (most first : ℕ) (vars : List Value) (s : Stage) (stages : List Stage) → length stages ≡ 0 → first ≡ g → most < first
      → completion test g most vars (s ∷ stages) ≡ completion_from test g most vars s stages first (last_number g s.truth + 1 - first)
  worth_greatest most first vars s [] e r l =
      from_all most vars s [] ∙ skipped most vars s (omega arith) ∙ ap (λ n. completion_from test g most vars s [] n (last_number g s.truth + 1 - n)) (sym r)
  worth_greatest most first vars s (z ∷ stages) e r l = absurd (omega arith)

  -- one number more: it completes them, or the others decide
  number_found : (most n count : ℕ) (vars after : List Value) (s : Stage) (stages : List Stage) (b : Bool) → 0 < count → b ≡ true
      → (b, after) ≡ ended vars (truths_in (s ∷ stages)) (option_map (λ ns. n ∷ ns) (completion_at test g most vars s stages n))
      → (true, after) ≡ ended vars (truths_in (s ∷ stages)) (completion_from test g most vars s stages n count)
  number_found most n zero vars after s stages b l t e = absurd (omega arith)
  number_found most n (suc count) vars after s stages b l t e =
      by (option_map (λ ns. n ∷ ns) (completion_at test g most vars s stages n)) (ap (λ c. (c, after)) (sym t) ∙ e)
      ∙ ap (ended vars (truths_in (s ∷ stages))) (sym (from_more most vars s stages n count))
    where
      by : (o : Option (List ℕ)) → (true, after) ≡ ended vars (truths_in (s ∷ stages)) o
          → (true, after) ≡ ended vars (truths_in (s ∷ stages)) (option_or o (completion_from test g most vars s stages (n + 1) count))
      by None q = let f = ap (λ p. p.0) q in absurd cc
      by (Some ns) q = q

  number_missed : (most n count : ℕ) (vars after : List Value) (s : Stage) (stages : List Stage) (b : Bool) → 0 < count → b ≡ false
      → (b, after) ≡ ended vars (truths_in (s ∷ stages)) (option_map (λ ns. n ∷ ns) (completion_at test g most vars s stages n))
      → (after ≡ vars) × (completion_from test g most vars s stages n count ≡ completion_from test g most vars s stages (n + 1) (count - 1))
  number_missed most n zero vars after s stages b l f e = absurd (omega arith)
  number_missed most n (suc count) vars after s stages b l f e =
      by (option_map (λ ns. n ∷ ns) (completion_at test g most vars s stages n)) (ap (λ c. (c, after)) (sym f) ∙ e) (from_more most vars s stages n count)
    where
      by : (o : Option (List ℕ)) → (false, after) ≡ ended vars (truths_in (s ∷ stages)) o
          → completion_from test g most vars s stages n (suc count) ≡ option_or o (completion_from test g most vars s stages (n + 1) count)
          → (after ≡ vars) × (completion_from test g most vars s stages n (suc count) ≡ completion_from test g most vars s stages (n + 1) (suc count - 1))
      by None q more = (ap (λ p. p.1) q, more ∙ ap (completion_from test g most vars s stages (n + 1)) (let e : count ≡ suc count - 1 = omega arith in e))
      by (Some ns) q more = let z = ap (λ p. p.0) q in absurd cc

  -- a loop over the numbers from `first` to `last` has come to `n`
  module _ (most first last n : ℕ) (vars before : List Value) (s : Stage) (stages : List Stage)
      (ends : last ≡ last_number g s.truth) (kept : before ≡ vars)
      (others : completion_from test g most vars s stages n (last + 1 - n) ≡ completion_from test g most vars s stages first (last + 1 - first))
      (worth : completion test g most vars (s ∷ stages) ≡ completion_from test g most vars s stages first (last_number g s.truth + 1 - first)) where
    all_left : completion_from test g most vars s stages n (last + 1 - n) ≡ completion test g most vars (s ∷ stages)
    all_left = others ∙ ap (λ m. completion_from test g most vars s stages first (m + 1 - first)) ends ∙ sym worth

    tried_at : (b : Bool) (after : List Value) → (b, after) ≡ ended before (truths_in (s ∷ stages)) (option_map (λ ns. n ∷ ns) (completion_at test g most before s stages n))
        → (b, after) ≡ ended vars (truths_in (s ∷ stages)) (option_map (λ ns. n ∷ ns) (completion_at test g most vars s stages n))
    tried_at b after e = e ∙ ap (λ vs. ended vs (truths_in (s ∷ stages)) (option_map (λ ns. n ∷ ns) (completion_at test g most vs s stages n))) kept

    pub walk_found : (b : Bool) (after : List Value) → n < last + 1 → b ≡ true
        → (b, after) ≡ ended before (truths_in (s ∷ stages)) (option_map (λ ns. n ∷ ns) (completion_at test g most before s stages n))
        → (true, after) ≡ ended vars (truths_in (s ∷ stages)) (completion test g most vars (s ∷ stages))
    walk_found b after l t e = number_found most n (last + 1 - n) vars after s stages b (omega arith) t (tried_at b after e) ∙ ap (ended vars (truths_in (s ∷ stages))) all_left

    pub walk_missed : (b : Bool) (after : List Value) → n < last + 1 → b ≡ false
        → (b, after) ≡ ended before (truths_in (s ∷ stages)) (option_map (λ ns. n ∷ ns) (completion_at test g most before s stages n))
        → (after ≡ vars) × (completion_from test g most vars s stages (n + 1) (last + 1 - (n + 1)) ≡ completion_from test g most vars s stages first (last + 1 - first))
    walk_missed b after l f e =
        let m = number_missed most n (last + 1 - n) vars after s stages b (omega arith) f (tried_at b after e) in
        (m.0, ap (completion_from test g most vars s stages (n + 1)) (let c : last + 1 - (n + 1) ≡ last + 1 - n - 1 = omega arith in c) ∙ sym m.1 ∙ others)

    pub walk_ended : last + 1 ≤ n → (false, before) ≡ ended vars (truths_in (s ∷ stages)) (completion test g most vars (s ∷ stages))
    walk_ended l =
        ap (λ vs. (false, vs)) kept ∙ ap (ended vars (truths_in (s ∷ stages)))
        (sym (from_none most vars s stages n) ∙ ap (completion_from test g most vars s stages n) (let c : 0 ≡ last + 1 - n = omega arith in c) ∙ all_left)

-- one greatest number more
module _ (test : List Value → Tree → Bool) (stages : List Stage) where
  pub reach_found : (g count : ℕ) (before after : List Value) (b : Bool) → 0 < count → b ≡ true → before ≡ []
      → (b, after) ≡ ended before (truths_in stages) (completion test g 0 before stages) → Some after ≡ first_completion test g count stages
  unfolding first_completion
  reach_found g zero before after b l t none e = absurd (omega arith)
  reach_found g (suc count) before after b l t none e =
      by (completion test g 0 [] stages) (ap (λ c. (c, after)) (sym t) ∙ e ∙ ap (λ vs. ended vs (truths_in stages) (completion test g 0 vs stages)) none)
    where
      by : (o : Option (List ℕ)) → (true, after) ≡ ended [] (truths_in stages) o
          → Some after ≡ option_or (option_map (as_values (truths_in stages)) o) (first_completion test (g + 1) count stages)
      by None q = let f = ap (λ p. p.0) q in absurd cc
      by (Some ns) q = ap (λ p. Some p.1) q

  pub reach_missed : (g count : ℕ) (before after : List Value) (b : Bool) → 0 < count → b ≡ false → before ≡ []
      → (b, after) ≡ ended before (truths_in stages) (completion test g 0 before stages)
      → (after ≡ []) × (first_completion test g count stages ≡ first_completion test (g + 1) (count - 1) stages)
  unfolding first_completion
  reach_missed g zero before after b l f none e = absurd (omega arith)
  reach_missed g (suc count) before after b l f none e =
      by (completion test g 0 [] stages) (ap (λ c. (c, after)) (sym f) ∙ e ∙ ap (λ vs. ended vs (truths_in stages) (completion test g 0 vs stages)) none)
    where
      by : (o : Option (List ℕ)) → (false, after) ≡ ended [] (truths_in stages) o
          → (after ≡ []) × (option_or (option_map (as_values (truths_in stages)) o) (first_completion test (g + 1) count stages) ≡ first_completion test (g + 1) (suc count - 1) stages)
      by None q = (ap (λ p. p.1) q, ap (λ n. first_completion test (g + 1) n stages) (let e : count ≡ suc count - 1 = omega arith in e))
      by (Some ns) q = let z = ap (λ p. p.0) q in absurd cc

  reach_none : (g : ℕ) → first_completion test g 0 stages ≡ None
  unfolding first_completion
  reach_none g = refl

  -- a loop over the greatest numbers above `below`
  pub next_found : (most below : ℕ) (before after : List Value) (b : Bool) → below < most → b ≡ true → before ≡ []
      → first_completion test (below + 1) (most - below) stages ≡ first_completion test 1 most stages
      → (b, after) ≡ ended before (truths_in stages) (completion test (below + 1) 0 before stages) → Some after ≡ first_completion test 1 most stages
  next_found most below before after b l t none left e = reach_found (below + 1) (most - below) before after b (omega arith) t none e ∙ left

  pub next_missed : (most below : ℕ) (before after : List Value) (b : Bool) → below < most → b ≡ false → before ≡ []
      → first_completion test (below + 1) (most - below) stages ≡ first_completion test 1 most stages
      → (b, after) ≡ ended before (truths_in stages) (completion test (below + 1) 0 before stages)
      → (after ≡ []) × (first_completion test (below + 1 + 1) (most - (below + 1)) stages ≡ first_completion test 1 most stages)
  next_missed most below before after b l f none left e =
      let m = reach_missed (below + 1) (most - below) before after b (omega arith) f none e in
      (m.0, ap (λ n. first_completion test (below + 1 + 1) n stages) (let c : most - (below + 1) ≡ most - below - 1 = omega arith in c) ∙ sym m.1 ∙ left)

  pub none_next : (most below : ℕ) → most ≤ below → first_completion test (below + 1) (most - below) stages ≡ first_completion test 1 most stages → None ≡ first_completion test 1 most stages
  none_next most below l left =
      sym (reach_none (below + 1)) ∙ ap (λ n. first_completion test (below + 1) n stages) (let c : 0 ≡ most - below = omega arith in c) ∙ left

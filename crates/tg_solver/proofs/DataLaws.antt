-- The parts of the list of candidates, and what the walk has to do with them.
use Rattle.std.proofs.Common.{ℕ, zero, suc, ◌≡◌, ◌+◌, ◌≤◌, max, Bool, true, false, ◌&&◌, cond, nat_eq, List, [], ◌∷◌, ◌++◌, map, length, Option, Some, None, option_map, refl, ap, sym, ◌∙◌, arith, All, add-one, if◌then◌else◌}
use Rattle.std.specs.Option.{option_or}
use Rattle.std.specs.List.{find, filter, flat_map, list_all, range_with_len}
use Rattle.std.proofs.lemmas.List.Elements.{All-cons, All-nil, All-map, All-weaker}
use Rattle.std.proofs.lemmas.List.Folds.{find-append}
use Rattle.tg_model.specs.Theory.{Theory}
use Rattle.tg_model.specs.Tree.{Tree}
use Rattle.tg_model.specs.Value.{Value}
use Rattle.tg_model.proofs.Booleans.{if_true, if_false}
use Rattle.rand_pcg.specs.Lcg.{Lcg}
use Rattle.tg_accept.specs.Declared.{Declared, theory}
use Rattle.tg_term.specs.declared.classes.Class.{Class}
use Rattle.tg_types.specs.Types.{ty}
use Rattle.tg_types.specs.declared.types.Ty.{Ty}
use Rattle.tg_types.specs.declared.options.Settings.{Settings}
use Rattle.tg_solver.specs.Numbers.{is_truth, as_value, as_values, assignments, greatest, last_number, reaching, in_order, most_number}
use Rattle.tg_solver.specs.Draws.{draw, after_draw, draws_from, draws, generator}
use Rattle.tg_term.specs.Classes.{variables_of}
use Rattle.tg_solver.specs.Candidates.{candidates, holds, satisfies, truths_of, first_candidate}
use Rattle.tg_solver.specs.Walk.{decided_by, stages_from, truths_in, passes, completes, completion, first_completion, first_reaching, first_from, first_after_zeros}
use Rattle.tg_solver.specs.declared.stages.Stage.{Stage}
use Rattle.tg_solver.proofs.FindLaws.{find_of_map, find_of_filter, same_test_within, none_passes_within, all_of_flat_map, or_assoc}
use Rattle.tg_solver.proofs.HoldLaws.{holds_reads, unnamed}
use Rattle.tg_solver.proofs.PlanLaws.{satisfied, never_satisfied, values_within}
use Rattle.tg_solver.proofs.DrawLaws.{draw_length}

pub assignments_length : (g : ℕ) (truths : List Bool) → All (λ ns. length ns ≡ length truths) (assignments g truths)
assignments_length g [] = All-cons (λ (ns : List ℕ). length ns ≡ 0) [] [] refl (All-nil (λ (ns : List ℕ). length ns ≡ 0))
assignments_length g (b ∷ truths) =
    all_of_flat_map (λ ns. length ns ≡ suc (length truths)) (λ n. map (λ ns. n ∷ ns) (assignments g truths))
    (λ n. All-map (λ ns. length ns ≡ suc (length truths)) (λ ns. n ∷ ns) (assignments g truths)
    (All-weaker (λ ns. length ns ≡ length truths) (λ ns. suc (length ns) ≡ suc (length truths)) (λ ns e. ap suc e) (assignments g truths) (assignments_length g truths)))
    (range_with_len 0 (last_number g b + 1))

truths_staged : (count number : ℕ) (truths : List Bool) (constraints : List Tree) → truths_in (stages_from count number truths constraints) ≡ truths
truths_staged count number [] constraints = refl
truths_staged count number (b ∷ truths) constraints = ap (λ rest. b ∷ rest) (truths_staged count (number + 1) truths constraints)

each : {X : Type 0} (P : X → Type 0) → ((x : X) → P x) → (xs : List X) → All P xs
each P h [] = All-nil P
each P h (x ∷ xs) = All-cons P x xs (h x) (each P h xs)

-- the assignment of zeros is the only one whose greatest number is 0
zeros_alone : (truths : List Bool) → assignments 0 truths ≡ map (λ b. 0) truths ∷ []
zeros_alone [] = refl
zeros_alone (true ∷ truths) = ap (λ xs. map (λ ns. 0 ∷ ns) xs ++ []) (zeros_alone truths)
zeros_alone (false ∷ truths) = ap (λ xs. map (λ ns. 0 ∷ ns) xs ++ []) (zeros_alone truths)

zeros_greatest : (truths : List Bool) → greatest (map (λ b. 0) truths) ≡ 0
zeros_greatest [] = refl
zeros_greatest (b ∷ truths) = ap (max 0) (zeros_greatest truths)

zeros_values : (truths : List Bool) → as_values truths (map (λ b. 0) truths) ≡ map (λ b. as_value b 0) truths
zeros_values [] = refl
zeros_values (b ∷ truths) = ap (λ rest. as_value b 0 ∷ rest) (zeros_values truths)

at_zeros : (test : List Value → Bool) (truths : List Bool)
    → first_reaching test 0 truths ≡ (if test (map (λ b. as_value b 0) truths) then Some (map (λ b. as_value b 0) truths) else None)
unfolding first_reaching
at_zeros test truths =
    ap (λ xs. find test (map (as_values truths) (filter (λ ns. nat_eq (greatest ns) 0) xs))) (zeros_alone truths)
    ∙ ap (λ n. find test (map (as_values truths) (cond (nat_eq n 0) (map (λ b. 0) truths ∷ []) []))) (zeros_greatest truths)
    ∙ ap (λ vs. cond (test vs) (Some vs) None) (zeros_values truths)

pub zeros_pass : (test : List Value → Bool) (truths : List Bool) (vs : List Value) → vs ≡ map (λ b. as_value b 0) truths → true ≡ test vs → Some vs ≡ first_reaching test 0 truths
zeros_pass test truths vs e t =
    sym (if_true (Some vs) None (test vs) (sym t)) ∙ ap (λ vs. if test vs then Some vs else None) e ∙ sym (at_zeros test truths)

pub zeros_fail : (test : List Value → Bool) (truths : List Bool) (vs : List Value) → vs ≡ map (λ b. as_value b 0) truths → false ≡ test vs → None ≡ first_reaching test 0 truths
zeros_fail test truths vs e t =
    sym (if_false (Some vs) None (test vs) (sym t)) ∙ ap (λ vs. if test vs then Some vs else None) e ∙ sym (at_zeros test truths)

pub ruleset zeros = (zeros_pass, zeros_fail)

-- zeros, what is above them, and draws
parts : (test : List Value → Bool) (truths : List Bool) (s : Settings) (index : ℕ)
    → option_or (first_reaching test 0 truths) (first_after_zeros test truths s index) ≡ find test (candidates truths s index)
unfolding first_reaching first_from
parts test truths s index =
    let m = most_number (length truths) s.bound in
    let F = λ (k : ℕ). map (as_values truths) (reaching k truths) in
    sym (or_assoc (find test (F 0)) (find test (flat_map F (range_with_len 1 m))) (find test (draws s.tries s.width truths (generator s.seed index))))
    ∙ ap (λ o. option_or o (find test (draws s.tries s.width truths (generator s.seed index)))) (sym (find-append test (F 0) (flat_map F (range_with_len 1 m))))
    ∙ ap (λ n. option_or (find test (flat_map F (range_with_len 0 n))) (find test (draws s.tries s.width truths (generator s.seed index)))) (sym (add-one m))
    ∙ sym (find-append test (in_order m truths) (draws s.tries s.width truths (generator s.seed index)))

pub found_at_zeros : (test : List Value → Bool) (truths : List Bool) (s : Settings) (index : ℕ) (vs : List Value)
    → Some vs ≡ first_reaching test 0 truths → Some vs ≡ find test (candidates truths s index)
found_at_zeros test truths s index vs e = ap (λ o. option_or o (first_after_zeros test truths s index)) e ∙ parts test truths s index

pub found_after : (test : List Value → Bool) (truths : List Bool) (s : Settings) (index : ℕ) (o : Option (List Value))
    → None ≡ first_reaching test 0 truths → o ≡ first_after_zeros test truths s index → o ≡ find test (candidates truths s index)
found_after test truths s index o e f = f ∙ ap (λ z. option_or z (first_after_zeros test truths s index)) e ∙ parts test truths s index

pub ruleset finding = (found_at_zeros, found_after)

module _ (th : Theory) (constraints : List Tree) (truths : List Bool) where
  abbrev plan : List Stage
  plan = stages_from (length truths) 1 truths constraints

  abbrev ground : Bool
  ground = satisfies th (decided_by (length truths) 0 constraints) []

  reach_completed : ground ≡ true → (g : ℕ) → option_map (as_values (truths_in plan)) (completion (holds th) g 0 [] plan) ≡ first_reaching (satisfies th constraints) g truths
  unfolding completion first_reaching
  reach_completed e g =
      ap (λ bs. option_map (as_values bs) (find (completes (holds th) g 0 [] plan) (assignments g bs))) (truths_staged (length truths) 1 truths constraints)
      ∙ ap (option_map (as_values truths)) (same_test_within (λ ns. length ns ≡ length truths) (completes (holds th) g 0 [] plan)
      (λ ns. nat_eq (greatest ns) g && satisfies th constraints (as_values truths ns)) same (assignments g truths) (assignments_length g truths)
      ∙ sym (find_of_filter (λ ns. satisfies th constraints (as_values truths ns)) (λ ns. nat_eq (greatest ns) g) (assignments g truths)))
      ∙ sym (find_of_map (satisfies th constraints) (as_values truths) (reaching g truths))
    where
      same : (ns : List ℕ) → length ns ≡ length truths → completes (holds th) g 0 [] plan ns ≡ (nat_eq (greatest ns) g && satisfies th constraints (as_values truths ns))
      same ns len =
          ap (λ m. nat_eq m g && passes (holds th) [] plan ns) (let z : max 0 (greatest ns) ≡ greatest ns = omega arith in z)
          ∙ ap (λ b. nat_eq (greatest ns) g && b)
          (ap (λ b. b && passes (holds th) [] plan ns) (sym e) ∙ sym (satisfied (holds th) (holds_reads th) constraints truths ns len))

  pub walk_completes : ground ≡ true → (count g : ℕ) → first_completion (holds th) g count plan ≡ first_from (satisfies th constraints) g count truths
  unfolding first_completion first_from first_reaching
  walk_completes e zero g = refl
  walk_completes e (suc count) g =
      (λ i. option_or (reach_completed e g i) (walk_completes e count (g + 1) i))
      ∙ sym (find-append (satisfies th constraints) (map (as_values truths) (reaching g truths))
      (flat_map (λ k. map (as_values truths) (reaching k truths)) (range_with_len (g + 1) count)))

  none_from : ground ≡ false → (g count : ℕ) → first_from (satisfies th constraints) g count truths ≡ None
  unfolding first_from
  none_from e g count =
      none_passes_within (λ vs. length vs ≤ length truths) (satisfies th constraints) (never_satisfied (holds th) (holds_reads th) constraints (length truths) e)
      (flat_map (λ k. map (as_values truths) (reaching k truths)) (range_with_len g count))
      (all_of_flat_map (λ vs. length vs ≤ length truths) (λ k. map (as_values truths) (reaching k truths))
      (λ k. All-map (λ vs. length vs ≤ length truths) (as_values truths) (reaching k truths)
      (each (λ ns. length (as_values truths ns) ≤ length truths) (values_within truths) (reaching k truths))) (range_with_len g count))

  none_drawn_from : ground ≡ false → (tries width : ℕ) (g : Lcg) → find (satisfies th constraints) (draws_from tries width truths g) ≡ None
  none_drawn_from e zero width g = refl
  none_drawn_from e (suc tries) width g =
      ap (λ b. cond b (Some (draw width truths g)) (find (satisfies th constraints) (draws_from tries width truths (after_draw truths g))))
      (never_satisfied (holds th) (holds_reads th) constraints (length truths) e (draw width truths g) (let l = draw_length width truths g in omega arith))
      ∙ none_drawn_from e tries width (after_draw truths g)

none_drawn : (th : Theory) (constraints : List Tree) (truths : List Bool) → ground th constraints truths ≡ false
    → (tries width : ℕ) (g : Lcg) → find (satisfies th constraints) (draws tries width truths g) ≡ None
none_drawn th constraints [] e tries width g = refl
none_drawn th constraints (b ∷ truths) e tries width g = none_drawn_from th constraints (b ∷ truths) e tries width g

pub none_after : (th : Theory) (constraints : List Tree) (truths : List Bool) (s : Settings) (index : ℕ)
    → false ≡ satisfies th (decided_by (length truths) 0 constraints) [] → None ≡ first_after_zeros (satisfies th constraints) truths s index
none_after th constraints truths s index e =
    sym (ap (λ o. option_or o (find (satisfies th constraints) (draws s.tries s.width truths (generator s.seed index)))) (none_from th constraints truths (sym e) 1 (most_number (length truths) s.bound))
    ∙ none_drawn th constraints truths (sym e) s.tries s.width (generator s.seed index))

pub walked_after : (th : Theory) (constraints : List Tree) (truths : List Bool) (s : Settings) (index : ℕ) (vs : List Value) (most : ℕ) → most ≡ most_number (length truths) s.bound
    → true ≡ satisfies th (decided_by (length truths) 0 constraints) [] → Some vs ≡ first_completion (holds th) 1 most (stages_from (length truths) 1 truths constraints)
    → Some vs ≡ first_after_zeros (satisfies th constraints) truths s index
walked_after th constraints truths s index vs most m e f =
    ap (λ o. option_or o (find (satisfies th constraints) (draws s.tries s.width truths (generator s.seed index))))
    (f ∙ walk_completes th constraints truths (sym e) most 1 ∙ ap (λ n. first_from (satisfies th constraints) 1 n truths) m)

pub drawn_after : (th : Theory) (constraints : List Tree) (truths : List Bool) (s : Settings) (index : ℕ) (o : Option (List Value)) (most : ℕ) → most ≡ most_number (length truths) s.bound
    → true ≡ satisfies th (decided_by (length truths) 0 constraints) [] → None ≡ first_completion (holds th) 1 most (stages_from (length truths) 1 truths constraints)
    → o ≡ find (satisfies th constraints) (draws s.tries s.width truths (generator s.seed index)) → o ≡ first_after_zeros (satisfies th constraints) truths s index
drawn_after th constraints truths s index o most m e f d =
    d ∙ ap (λ z. option_or z (find (satisfies th constraints) (draws s.tries s.width truths (generator s.seed index))))
    (f ∙ walk_completes th constraints truths (sym e) most 1 ∙ ap (λ n. first_from (satisfies th constraints) 1 n truths) m)

-- where numbers go up to 0 only, nothing is above the zeros
pub drawn_above_zero : (test : List Value → Bool) (truths : List Bool) (s : Settings) (index : ℕ) (o : Option (List Value)) (most : ℕ) → most ≡ most_number (length truths) s.bound
    → most ≡ 0 → o ≡ find test (draws s.tries s.width truths (generator s.seed index)) → o ≡ first_after_zeros test truths s index
unfolding first_from
drawn_above_zero test truths s index o most m z d =
    d ∙ ap (λ n. option_or (first_from test 1 n truths) (find test (draws s.tries s.width truths (generator s.seed index)))) (sym z ∙ m)

pub ruleset above = (none_after, walked_after, drawn_after, drawn_above_zero)

kinds_of : (ts : List Ty) → map (λ t. is_truth (ty t)) ts ≡ map is_truth (map ty ts)
kinds_of [] = refl
kinds_of (t ∷ ts) = ap (λ bs. is_truth (ty t) ∷ bs) (kinds_of ts)

-- the candidates of a class, in a theory of any name
pub of_class : (name : List ℕ) (D : Declared) (th : Theory) (c : Class) (s : Settings) (index : ℕ) (truths : List Bool) (constraints : List Tree) (o : Option (List Value))
    → theory name D ≡ th → truths ≡ map (λ t. is_truth (ty t)) c.pattern.vars → constraints ≡ c.constraints
    → o ≡ find (satisfies (theory [] D) constraints) (candidates truths s index) → o ≡ first_candidate th (variables_of c.pattern) c.constraints s index
of_class name D th c s index truths constraints o named kinds same e =
    e
    ∙ (λ i. find (λ vars. list_all (unnamed name D i vars) (same i)) (candidates ((kinds ∙ kinds_of c.pattern.vars) i) s index))
    ∙ ap (λ th. find (satisfies th c.constraints) (candidates (truths_of (variables_of c.pattern)) s index)) named

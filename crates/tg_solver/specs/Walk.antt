-- The walk over assignments: each variable with the constraints that its value decides, since they use no later one.
use Rattle.std.specs.Prelude.{ℕ, zero, suc, Bool, true, false, ◌+◌, ◌&&◌, max, nat_eq, List, [], ◌∷◌, ◌++◌, map, length, Option, Some, None, option_map, if◌then◌else◌}
use Rattle.std.specs.Option.{option_or}
use Rattle.std.specs.List.{filter, find, flat_map, list_all, range_with_len}
use Rattle.tg_model.specs.Tree.{Tree}
use Rattle.tg_model.specs.Uses.{uses}
use Rattle.tg_model.specs.Value.{Value}
use Rattle.tg_solver.specs.Numbers.{as_value, as_values, assignments, greatest, most_number, reaching}
use Rattle.tg_solver.specs.Draws.{draws, generator}
use Rattle.tg_types.specs.declared.options.Settings.{Settings}
use Rattle.tg_solver.specs.declared.stages.Stage.{Stage}

-- the last of the first `count` variables that the constraint uses, and 0 where it uses none
abbrev pub last_used : ℕ → Tree → ℕ
last_used zero t = 0
last_used (suc count) t = if uses (suc count) t then suc count else last_used count t

-- the constraints that the variable of this number decides; those of number 0 use none
abbrev pub decided_by : ℕ → ℕ → List Tree → List Tree
decided_by count number constraints = filter (λ t. nat_eq (last_used count t) number) constraints

abbrev pub stages_from : ℕ → ℕ → List Bool → List Tree → List Stage
stages_from count number [] constraints = []
stages_from count number (truth ∷ truths) constraints =
    record { truth = truth; decided = decided_by count number constraints } ∷ stages_from count (number + 1) truths constraints

abbrev pub truths_in : List Stage → List Bool
truths_in stages = map (λ s. s.truth) stages

-- what a test of constraints at values lets through
module _ (test : List Value → Tree → Bool) where
  -- each constraint passes where the values that follow decide it
  abbrev pub passes : List Value → List Stage → List ℕ → Bool
  passes vars [] ns = true
  passes vars (s ∷ stages) [] = false
  passes vars (s ∷ stages) (n ∷ ns) =
      list_all (test (vars ++ as_value s.truth n ∷ [])) s.decided && passes (vars ++ as_value s.truth n ∷ []) stages ns

  -- they pass, and the greatest number, `most` so far, is `g` with those that follow
  abbrev pub completes : ℕ → ℕ → List Value → List Stage → List ℕ → Bool
  completes g most vars stages ns = nat_eq (max most (greatest ns)) g && passes vars stages ns

  unfoldable pub completion : ℕ → ℕ → List Value → List Stage → Option (List ℕ)
  completion g most vars stages = find (completes g most vars stages) (assignments g (truths_in stages))

  -- the same where the next variable has one of `count` numbers, that from `from` on
  unfoldable pub completion_from : ℕ → ℕ → List Value → Stage → List Stage → ℕ → ℕ → Option (List ℕ)
  completion_from g most vars s stages from count =
      find (completes g most vars (s ∷ stages)) (flat_map (λ n. map (λ ns. n ∷ ns) (assignments g (truths_in stages))) (range_with_len from count))

  -- the same where it has one number
  abbrev pub completion_at : ℕ → ℕ → List Value → Stage → List Stage → ℕ → Option (List ℕ)
  completion_at g most vars s stages n =
      if list_all (test (vars ++ as_value s.truth n ∷ [])) s.decided then completion g (max most n) (vars ++ as_value s.truth n ∷ []) stages else None

-- what a walk from some values leaves: whether it ended, and the values
abbrev pub ended : List Value → List Bool → Option (List ℕ) → Bool × List Value
ended vars truths None = (false, vars)
ended vars truths (Some ns) = (true, vars ++ as_values truths ns)

-- the first completion of no values, of `count` greatest numbers from `g` on
unfoldable pub first_completion : (List Value → Tree → Bool) → ℕ → ℕ → List Stage → Option (List Value)
first_completion test g zero stages = None
first_completion test g (suc count) stages =
    option_or (option_map (as_values (truths_in stages)) (completion test g 0 [] stages)) (first_completion test (g + 1) count stages)

-- the first candidate that passes a test, of those with a greatest number of `g`
unfoldable pub first_reaching : (List Value → Bool) → ℕ → List Bool → Option (List Value)
first_reaching test g truths = find test (map (as_values truths) (reaching g truths))

-- the same of `count` greatest numbers from `g` on
unfoldable pub first_from : (List Value → Bool) → ℕ → ℕ → List Bool → Option (List Value)
first_from test g count truths = find test (flat_map (λ k. map (as_values truths) (reaching k truths)) (range_with_len g count))

abbrev pub first_after_zeros : (List Value → Bool) → List Bool → Settings → ℕ → Option (List Value)
first_after_zeros test truths s index =
    option_or (first_from test 1 (most_number (length truths) s.bound) truths) (find test (draws s.tries s.width truths (generator s.seed index)))

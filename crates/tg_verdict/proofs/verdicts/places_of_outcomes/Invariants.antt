use Rattle.std.proofs.Common.{◌≡◌, map, take}
use Rattle.tg_verdict.specs.Places.{outcome_number}
use Rattle.tg_verdict.proofs.verdicts.places_of_outcomes.Given as goal

-- those so far
abbrev pub invariant-loop-outcome : goal.invariant-loop-outcome
invariant-loop-outcome l = l.numbers ≡ map outcome_number (take l.outcome-index l.list)

use Rattle.std.proofs.Common.{◌≡◌, ◌+◌, drop}
use Rattle.tg_accept.specs.Faults.{are_variables}
use Rattle.tg_model.specs.Tree.{trees}
use Rattle.tg_theory.proofs.calls.are_variables.Given as goal

-- what is left decides
abbrev pub invariant-loop-at : goal.invariant-loop-at
invariant-loop-at l = are_variables (l.at + 1) (trees (drop l.at l.ts)) ≡ are_variables 1 (trees l.ts)

use Rattle.std.proofs.Common.{◌≡◌, ◌+◌, drop}
use Rattle.tg_accept.specs.Faults.{are_parameters}
use Rattle.tg_types.specs.Types.{types}
use Rattle.tg_split.proofs.recursion.are_parameters.Given as goal

-- what is left decides
abbrev pub invariant-loop-at : goal.invariant-loop-at
invariant-loop-at l = are_parameters (l.at + 1) (types (drop l.at l.ts)) ≡ are_parameters 1 (types l.ts)

use Rattle.std.proofs.Common.{◌≡◌, drop}
use Rattle.tg_accept.specs.Faults.{any_has_parameter}
use Rattle.tg_types.specs.Types.{types}
use Rattle.tg_split.proofs.recursion.are_closed.Given as goal

abbrev pub invariant-loop-t : goal.invariant-loop-t
invariant-loop-t l = any_has_parameter (types (drop l.t-index l.ts)) ≡ any_has_parameter (types l.ts)

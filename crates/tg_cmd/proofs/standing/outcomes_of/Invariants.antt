use Rattle.std.proofs.Common.{◌≡◌, map, take}
use Rattle.tg_cmd.specs.StandIn.{simulated}
use Rattle.tg_harness.specs.Tests.{test, record_of}
use Rattle.tg_cmd.proofs.standing.outcomes_of.Given as goal

-- those of the tests so far
abbrev pub invariant-loop-t : goal.invariant-loop-t
invariant-loop-t l = map record_of l.list.items ≡ simulated l.theory l.f (map test (take l.t-index l.tests))

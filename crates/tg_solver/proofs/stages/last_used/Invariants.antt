use Rattle.std.proofs.Common.{◌≡◌}
use Rattle.tg_solver.specs.Walk.{last_used}
use Rattle.tg_solver.proofs.stages.last_used.Given as goal

abbrev pub invariant-loop-number : goal.invariant-loop-number
invariant-loop-number l = last_used l.count l.t ≡ last_used l.number l.t

abbrev pub decreases-loop-number : goal.decreases-loop-number
decreases-loop-number l = l.number

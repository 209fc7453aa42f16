use Rattle.std.proofs.Common.{◌≡◌, take}
use Rattle.tg_solver.specs.Walk.{decided_by}
use Rattle.tg_solver.proofs.stages.decided_by.Given as goal

abbrev pub invariant-loop-i : goal.invariant-loop-i
invariant-loop-i l = l.out ≡ decided_by l.count l.number (take l.i l.constraints)

use Rattle.std.proofs.Common.{◌≡◌, map, take}
use Rattle.tg_solver.specs.Walk.{last_used}
use Rattle.tg_solver.proofs.stages.all_last_used.Given as goal

abbrev pub invariant-loop-t : goal.invariant-loop-t
invariant-loop-t l = l.out.items ≡ map (last_used l.count) (take l.t-index l.terms)

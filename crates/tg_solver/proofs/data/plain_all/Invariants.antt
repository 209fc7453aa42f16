use Rattle.std.proofs.Common.{◌≡◌, map, take}
use Rattle.tg_term.specs.Values.{value}
use Rattle.tg_solver.proofs.data.plain_all.Given as goal

abbrev pub invariant-loop-v : goal.invariant-loop-v
invariant-loop-v l = map value l.out ≡ take l.v-index l.vars

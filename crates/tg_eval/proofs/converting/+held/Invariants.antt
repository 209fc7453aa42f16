use Rattle.std.proofs.Common.{◌≡◌, map, take}
use Rattle.tg_term.specs.Values.{value}
use Rattle.tg_eval.proofs.converting.+held.Given as goal

abbrev pub invariant-all_within-loop-v : goal.invariant-all_within-loop-v
invariant-all_within-loop-v l = l.out.items ≡ map value (take l.v-index l.vs)

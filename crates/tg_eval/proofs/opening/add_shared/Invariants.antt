use Rattle.std.proofs.Common.{◌≡◌, ◌++◌, take}
use Rattle.tg_eval.proofs.opening.add_shared.Given as goal

abbrev pub invariant-loop-v : goal.invariant-loop-v
invariant-loop-v l = l.out.items ≡ l.fn.out.items ++ take l.v-index l.vs

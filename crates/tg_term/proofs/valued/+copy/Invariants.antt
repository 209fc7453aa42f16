use Rattle.std.proofs.Common.{◌≡◌, take}
use Rattle.tg_term.proofs.valued.+copy.Given as goal

abbrev pub invariant-copy_values-loop-v : goal.invariant-copy_values-loop-v
invariant-copy_values-loop-v l = l.copies ≡ take l.v-index l.vs

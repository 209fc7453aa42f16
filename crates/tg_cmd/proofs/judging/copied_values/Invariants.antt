use Rattle.std.proofs.Common.{◌≡◌, take}
use Rattle.tg_cmd.proofs.judging.copied_values.Given as goal

-- those so far
abbrev pub invariant-loop-v : goal.invariant-loop-v
invariant-loop-v l = l.copy ≡ take l.v-index l.values

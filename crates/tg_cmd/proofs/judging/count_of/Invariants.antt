use Rattle.std.proofs.Common.{◌≡◌, ◌≤◌, take}
use Rattle.tg_cmd.specs.Lines.{count_of}
use Rattle.tg_cmd.proofs.judging.count_of.Given as goal

-- those so far, and no more than that
abbrev pub invariant-loop-v : goal.invariant-loop-v
invariant-loop-v l = (l.count ≡ count_of l.wanted (take l.v-index l.verdicts)) × (l.count ≤ l.v-index)

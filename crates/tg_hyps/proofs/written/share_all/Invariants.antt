use Rattle.std.proofs.Common.{◌≡◌, take}
use Rattle.tg_hyps.proofs.written.share_all.Given as goal

abbrev pub invariant-loop-t : goal.invariant-loop-t
invariant-loop-t l = l.copy ≡ take l.t-index l.ts

use Rattle.std.proofs.Common.{◌≡◌, take}
use Rattle.tg_derive.proofs.goals.copied.Given as goal

abbrev pub invariant-loop-t : goal.invariant-loop-t
invariant-loop-t l = l.us.items ≡ take l.t-index l.ts

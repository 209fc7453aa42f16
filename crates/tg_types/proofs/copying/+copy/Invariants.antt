use Rattle.std.proofs.Common.{◌≡◌, take}
use Rattle.tg_types.proofs.copying.+copy.Given as goal

abbrev pub invariant-copy_all-loop-t : goal.invariant-copy_all-loop-t
invariant-copy_all-loop-t l = l.copies ≡ take l.t-index l.ts

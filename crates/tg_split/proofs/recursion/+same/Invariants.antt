use Rattle.std.proofs.Common.{◌≡◌, map, take}
use Rattle.tg_types.specs.Types.{ty}
use Rattle.tg_split.proofs.recursion.+same.Given as goal

abbrev pub invariant-same_types-loop-i : goal.invariant-same_types-loop-i
invariant-same_types-loop-i l = map ty (take l.i l.ts) ≡ map ty (take l.i l.us)

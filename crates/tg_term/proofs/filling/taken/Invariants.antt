use Rattle.std.proofs.Common.{◌≡◌, Some, map, take}
use Rattle.tg_term.specs.Matching.{held, all_of}
use Rattle.tg_term.specs.Values.{value}
use Rattle.tg_term.proofs.filling.taken.Given as goal

abbrev pub invariant-loop-slot : goal.invariant-loop-slot
invariant-loop-slot l = Some (map value l.out.items) ≡ all_of (map held (take l.slot-index l.slots))

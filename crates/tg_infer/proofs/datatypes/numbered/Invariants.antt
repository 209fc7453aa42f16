use Rattle.std.proofs.Common.{◌≡◌, take}
use Rattle.tg_infer.proofs.datatypes.numbered.Given as goal

abbrev pub invariant-loop-x : goal.invariant-loop-x
invariant-loop-x l = l.params ≡ take l.x-index l.names

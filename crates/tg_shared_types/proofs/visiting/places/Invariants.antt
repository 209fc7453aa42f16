use Rattle.tg_shared_types.specs.Nodes.{AreBelow}
use Rattle.tg_shared_types.proofs.visiting.places.Given as goal

abbrev pub invariant-loop-i : goal.invariant-loop-i
invariant-loop-i l = AreBelow l.i l.list.items

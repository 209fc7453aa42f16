use Rattle.std.proofs.Common.{◌≡◌, ◌+◌, length}
use Rattle.tg_shared_types.specs.Nodes.{AreBelow}
use Rattle.tg_shared_types.specs.Marks.{AreMarks, visits}
use Rattle.tg_shared_types.proofs.visiting.visit.Given as goal

abbrev pub invariant-loop-at : goal.invariant-loop-at
invariant-loop-at l = record {
  marks : AreMarks l.nodes l.marks;
  long : length l.visited.items ≡ length l.nodes;
  below : AreBelow (length l.nodes) l.list.items;
}

abbrev pub decreases-loop-at : goal.decreases-loop-at
decreases-loop-at l = visits l.nodes l.visited.items + length l.list.items

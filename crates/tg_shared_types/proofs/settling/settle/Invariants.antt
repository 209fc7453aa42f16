use Rattle.std.specs.Bool.{OnFalse}
use Rattle.tg_shared_types.specs.Marks.{AreMarks, IsStuck, unmarked, with_turn}
use Rattle.tg_shared_types.proofs.settling.settle.Given as goal

abbrev pub invariant-loop-going : goal.invariant-loop-going
invariant-loop-going l = record {
  marks : AreMarks l.nodes l.marks.items;
  stuck : OnFalse l.going (IsStuck l.nodes l.marks.items);
}

abbrev pub decreases-loop-going : goal.decreases-loop-going
decreases-loop-going l = with_turn l.going (unmarked l.marks.items)

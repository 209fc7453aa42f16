use Rattle.std.proofs.Common.{ℕ, ◌≡◌, ◌<◌, ◌≤◌, false}
use Rattle.tg_shared_types.specs.Nodes.{node_at}
use Rattle.tg_shared_types.specs.Marks.{AreMarks, is_marked, is_ready, unmarked, with_turn}
use Rattle.tg_shared_types.proofs.settling.round.Given as goal

-- where none was marked, none of the nodes so far could be
abbrev pub invariant-loop-i : goal.invariant-loop-i
invariant-loop-i l = record {
  marks : AreMarks l.nodes l.marks;
  fewer : with_turn l.more (unmarked l.marks) ≤ unmarked l.initial.marks;
  unready : l.more ≡ false → (k : ℕ) → k < l.i → is_marked l.marks k ≡ false → is_ready l.marks (node_at l.nodes k) ≡ false;
}

use Rattle.std.proofs.Common.{◌≡◌, ◌+◌, ◌*◌, ◌≤◌, length}
use Rattle.tg_typing.specs.View.{resolved, all_resolved, branches}
use Rattle.tg_typing.proofs.ResolvedSizes.{size, sizes, branch_sizes}
use Rattle.tg_typing.proofs.WalkLaws.{ArgumentsLead, BranchesLead}
use Rattle.tg_typing.proofs.walking.+walk.Given as goal

abbrev pub decreases-type_at : goal.decreases-type_at
decreases-type_at l = 2 * size (resolved l.t.now)

abbrev pub decreases-type_use : goal.decreases-type_use
decreases-type_use l = 2 * sizes (all_resolved l.ts.now) + 1

abbrev pub decreases-type_branches : goal.decreases-type_branches
decreases-type_branches l = 2 * branch_sizes (branches l.bs.now) + 1

abbrev pub invariant-type_use-loop-at : goal.invariant-type_use-loop-at
invariant-type_use-loop-at l = record {
  longer : length l.initial.table ≤ length l.table;
  locs : l.locs.items ≡ l.initial.locs.items;
  leads : ArgumentsLead l.context l.initial.locs.items l.initial.table l.table l.ts l.nodes l.at;
}

abbrev pub invariant-type_branches-loop-b : goal.invariant-type_branches-loop-b
invariant-type_branches-loop-b l = record {
  longer : length l.initial.table ≤ length l.table;
  locs : l.locs.items ≡ l.initial.locs.items;
  leads : BranchesLead l.context l.initial.locs.items l.n l.us l.expected l.initial.table l.table l.bs l.b-index;
}

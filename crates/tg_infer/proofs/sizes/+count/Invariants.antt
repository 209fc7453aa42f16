use Rattle.std.proofs.Common.{◌≡◌, ◌+◌, ◌*◌, ◌-◌, drop}
use Rattle.tg_accept.specs.Raw.{nodes, all_nodes, branch_nodes}
use Rattle.tg_infer.specs.View.{raw_term, raw_terms, raw_branches}
use Rattle.tg_infer.proofs.sizes.+count.Given as goal

abbrev pub decreases-left_after : goal.decreases-left_after
decreases-left_after l = 2 * nodes (raw_term l.t.now)

abbrev pub decreases-left_after_all : goal.decreases-left_after_all
decreases-left_after_all l = 2 * all_nodes (raw_terms l.ts.now) + 1

abbrev pub decreases-left_after_branches : goal.decreases-left_after_branches
decreases-left_after_branches l = 2 * branch_nodes (raw_branches l.bs.now) + 1

abbrev pub invariant-left_after_all-loop-t : goal.invariant-left_after_all-loop-t
invariant-left_after_all-loop-t l = l.rest - all_nodes (raw_terms (drop l.t-index l.ts)) ≡ l.left - all_nodes (raw_terms l.ts)

abbrev pub invariant-left_after_branches-loop-b : goal.invariant-left_after_branches-loop-b
invariant-left_after_branches-loop-b l = l.rest - branch_nodes (raw_branches (drop l.b-index l.bs)) ≡ l.left - branch_nodes (raw_branches l.bs)

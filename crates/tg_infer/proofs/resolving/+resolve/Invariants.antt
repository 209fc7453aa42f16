use Rattle.std.proofs.Common.{◌+◌, ◌*◌, drop}
use Rattle.tg_accept.specs.Raw.{nodes, all_nodes, branch_nodes}
use Rattle.tg_infer.specs.Scopes.{scope_of}
use Rattle.tg_infer.specs.View.{raw_term, raw_terms, raw_branches}
use Rattle.tg_infer.proofs.ResolvingLaws.{StandsAll, StandsBranches}
use Rattle.tg_infer.proofs.resolving.+resolve.Given as goal

abbrev pub decreases-resolve : goal.decreases-resolve
decreases-resolve l = 4 * nodes (raw_term l.t.now)

abbrev pub decreases-resolve_use : goal.decreases-resolve_use
decreases-resolve_use l = 4 * all_nodes (raw_terms l.ts.now) + 2

abbrev pub decreases-resolve_all : goal.decreases-resolve_all
decreases-resolve_all l = 4 * all_nodes (raw_terms l.ts.now) + 1

abbrev pub decreases-resolve_let : goal.decreases-resolve_let
decreases-resolve_let l = 4 * all_nodes (raw_terms l.ts.now) + 1

abbrev pub decreases-resolve_case : goal.decreases-resolve_case
decreases-resolve_case l = 4 * (all_nodes (raw_terms l.ts.now) + branch_nodes (raw_branches l.bs.now)) + 3

abbrev pub decreases-resolve_branches : goal.decreases-resolve_branches
decreases-resolve_branches l = 4 * branch_nodes (raw_branches l.bs.now) + 2

abbrev pub decreases-resolve_branch : goal.decreases-resolve_branch
decreases-resolve_branch l = 4 * nodes (raw_term l.b.now.body) + 1

abbrev pub invariant-resolve_all-loop-t : goal.invariant-resolve_all-loop-t
invariant-resolve_all-loop-t l = StandsAll (scope_of l.scope) l.initial.outer l.outer l.ts l.all (drop l.t-index l.ts)

abbrev pub invariant-resolve_branches-loop-b : goal.invariant-resolve_branches-loop-b
invariant-resolve_branches-loop-b l = StandsBranches (scope_of l.scope) l.initial.outer l.outer l.bs l.all (drop l.b-index l.bs)

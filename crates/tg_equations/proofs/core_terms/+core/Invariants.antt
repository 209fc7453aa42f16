use Rattle.std.proofs.Common.{◌≡◌, ◌+◌, ◌*◌, [], map, take}
use Rattle.tg_accept.specs.Core.{core}
use Rattle.tg_accept.specs.Declared.{theory}
use Rattle.tg_typing.specs.View.{resolved, all_resolved, branches, seen}
use Rattle.tg_typing.proofs.ResolvedSizes.{size, sizes, branch_sizes}
use Rattle.tg_equations.specs.Written.{written_branch}
use Rattle.tg_equations.proofs.CoreLaws.{core_seen}
use Rattle.tg_equations.proofs.core_terms.+core.Given as goal

abbrev pub decreases-core_term : goal.decreases-core_term
decreases-core_term l = 3 * size (resolved l.t.now) + 1

abbrev pub decreases-core_node : goal.decreases-core_node
decreases-core_node l = 3 * size (resolved l.t.now)

abbrev pub decreases-core_all : goal.decreases-core_all
decreases-core_all l = 3 * sizes (all_resolved l.ts.now) + 2

abbrev pub decreases-core_branches : goal.decreases-core_branches
decreases-core_branches l = 3 * branch_sizes (branches l.bs.now) + 2

abbrev pub invariant-core_all-loop-t : goal.invariant-core_all-loop-t
invariant-core_all-loop-t l = l.all ≡ map (λ t. core (theory [] l.declared) l.own (resolved t)) (take l.t-index l.ts)

abbrev pub invariant-core_branches-loop-b : goal.invariant-core_branches-loop-b
invariant-core_branches-loop-b l = map written_branch l.all ≡ map (λ b. core_seen (theory [] l.declared) l.own (seen b)) (take l.b-index l.bs)

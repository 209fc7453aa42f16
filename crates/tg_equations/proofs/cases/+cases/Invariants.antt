use Rattle.std.proofs.Common.{◌≡◌, ◌+◌, ◌*◌, drop}
use Rattle.tg_typing.specs.View.{resolved, all_resolved, branches}
use Rattle.tg_typing.proofs.ResolvedSizes.{size, sizes, branch_sizes}
use Rattle.tg_equations.specs.Checked.{each_cases, each_branch}
use Rattle.tg_equations.specs.Placed.{passes}
use Rattle.tg_equations.proofs.cases.+cases.Given as goal

abbrev pub decreases-pass : goal.decreases-pass
decreases-pass l = 2 * size (resolved l.t.now)

abbrev pub decreases-pass_all : goal.decreases-pass_all
decreases-pass_all l = 2 * sizes (all_resolved l.ts.now) + 1

abbrev pub decreases-pass_branches : goal.decreases-pass_branches
decreases-pass_branches l = 2 * branch_sizes (branches l.bs.now) + 1

-- what is left decides
abbrev pub invariant-pass_all-loop-t : goal.invariant-pass_all-loop-t
invariant-pass_all-loop-t l = each_cases (passes l.checks) (all_resolved (drop l.t-index l.ts)) ≡ each_cases (passes l.checks) (all_resolved l.ts)

abbrev pub invariant-pass_branches-loop-b : goal.invariant-pass_branches-loop-b
invariant-pass_branches-loop-b l = each_branch (passes l.checks) (branches (drop l.b-index l.bs)) ≡ each_branch (passes l.checks) (branches l.bs)

use Rattle.std.proofs.Common.{◌≡◌, ◌+◌, ◌*◌, drop}
use Rattle.tg_model.specs.Tree.{trees}
use Rattle.tg_term.specs.Measures.{height, heights, heights_within}
use Rattle.tg_term.specs.View.{arms}
use Rattle.tg_calculus.specs.Replacing.{all_replace, arms_replace}
use Rattle.tg_kernel.proofs.replacing.+replaced.Given as goal

abbrev pub decreases-in_term : goal.decreases-in_term
decreases-in_term l = 3 * height l.u.now + 2

abbrev pub decreases-is_below : goal.decreases-is_below
decreases-is_below l = 3 * height l.u.now + 1

abbrev pub decreases-in_terms : goal.decreases-in_terms
decreases-in_terms l = 3 * heights (trees l.us.now)

abbrev pub decreases-in_branches : goal.decreases-in_branches
decreases-in_branches l = 3 * heights_within (arms l.bs.now)

-- what is left decides
abbrev pub invariant-in_terms-loop-i : goal.invariant-in_terms-loop-i
invariant-in_terms-loop-i l = all_replace l.s l.t (trees (drop l.i l.us)) (trees (drop l.i l.vs)) ≡ all_replace l.s l.t (trees l.us) (trees l.vs)

abbrev pub invariant-in_branches-loop-i : goal.invariant-in_branches-loop-i
invariant-in_branches-loop-i l = arms_replace l.s l.t (arms (drop l.i l.bs)) (arms (drop l.i l.cs)) ≡ arms_replace l.s l.t (arms l.bs) (arms l.cs)

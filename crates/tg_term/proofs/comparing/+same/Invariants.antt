use Rattle.std.proofs.Common.{◌≡◌, ◌+◌, ◌*◌, take}
use Rattle.tg_model.specs.Tree.{trees}
use Rattle.tg_term.specs.Measures.{height, heights, heights_within}
use Rattle.tg_term.specs.View.{arms}
use Rattle.tg_term.proofs.comparing.+same.Given as goal

abbrev pub decreases-same : goal.decreases-same
decreases-same l = 2 * height l.a.now + 1

abbrev pub decreases-same_terms : goal.decreases-same_terms
decreases-same_terms l = 2 * heights (trees l.ts.now)

abbrev pub decreases-same_branches : goal.decreases-same_branches
decreases-same_branches l = 2 * heights_within (arms l.bs.now)

abbrev pub invariant-same_terms-loop-i : goal.invariant-same_terms-loop-i
invariant-same_terms-loop-i l = take l.i l.ts ≡ take l.i l.us

abbrev pub invariant-same_branches-loop-i : goal.invariant-same_branches-loop-i
invariant-same_branches-loop-i l = take l.i l.bs ≡ take l.i l.cs

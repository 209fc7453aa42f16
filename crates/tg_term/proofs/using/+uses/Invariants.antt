use Rattle.std.proofs.Common.{◌≡◌, ◌+◌, ◌*◌, drop}
use Rattle.tg_model.specs.Tree.{trees}
use Rattle.tg_model.specs.Uses.{use_any, use_branch}
use Rattle.tg_term.specs.Measures.{height, heights, heights_within}
use Rattle.tg_term.specs.View.{arms}
use Rattle.tg_term.proofs.using.+uses.Given as goal

abbrev pub decreases-uses : goal.decreases-uses
decreases-uses l = 2 * height l.t.now + 1

abbrev pub decreases-use_any : goal.decreases-use_any
decreases-use_any l = 2 * heights (trees l.ts.now)

abbrev pub decreases-use_branch : goal.decreases-use_branch
decreases-use_branch l = 2 * heights_within (arms l.bs.now)

-- what is left decides
abbrev pub invariant-use_any-loop-t : goal.invariant-use_any-loop-t
invariant-use_any-loop-t l = use_any l.number (trees (drop l.t-index l.ts)) ≡ use_any l.number (trees l.ts)

abbrev pub invariant-use_branch-loop-b : goal.invariant-use_branch-loop-b
invariant-use_branch-loop-b l = use_branch l.number (arms (drop l.b-index l.bs)) ≡ use_branch l.number (arms l.bs)

use Rattle.std.proofs.Common.{◌≡◌, ◌+◌, ◌*◌, max, drop}
use Rattle.tg_model.specs.Tree.{trees}
use Rattle.tg_term.specs.Measures.{height, heights, heights_within}
use Rattle.tg_term.specs.View.{arms}
use Rattle.tg_render.specs.Render.{written}
use Rattle.tg_render.specs.Tokens.{joined, continued}
use Rattle.tg_report.specs.Words.{comma}
use Rattle.tg_report.specs.TermTexts.{terms_tokens, branches_tokens}
use Rattle.tg_report.proofs.terms.+terms.Given as goal

abbrev pub decreases-put_at : goal.decreases-put_at
decreases-put_at l = 5 * height l.t.now + 4

abbrev pub decreases-put_use : goal.decreases-put_use
decreases-put_use l = 5 * heights (trees l.ts.now) + 1

abbrev pub decreases-put_all : goal.decreases-put_all
decreases-put_all l = 5 * heights (trees l.ts.now)

abbrev pub decreases-put_choice : goal.decreases-put_choice
decreases-put_choice l = 5 * heights (trees l.ts.now) + 2

abbrev pub decreases-put_operation : goal.decreases-put_operation
decreases-put_operation l = 5 * heights (trees l.ts.now) + 2

abbrev pub decreases-put_let : goal.decreases-put_let
decreases-put_let l = 5 * max (height l.t.now + 1) (height l.body.now + 1)

abbrev pub decreases-put_case : goal.decreases-put_case
decreases-put_case l = 5 * max (height l.t.now + 1) (heights_within (arms l.bs.now)) + 3

abbrev pub decreases-put_branches : goal.decreases-put_branches
decreases-put_branches l = 5 * heights_within (arms l.bs.now) + 2

abbrev pub decreases-put_more_branches : goal.decreases-put_more_branches
decreases-put_more_branches l = 5 * heights_within (arms l.bs.now) + 1

abbrev pub decreases-put_branch : goal.decreases-put_branch
decreases-put_branch l = 5 * height l.b.now.body + 5

-- with what is left it is the whole
abbrev pub invariant-put_all-loop-t : goal.invariant-put_all-loop-t
invariant-put_all-loop-t l =
    written l.out.items (joined (terms_tokens l.th l.level (trees (drop l.t-index l.ts))))
    ≡ written l.fn.out.items (joined (terms_tokens l.th l.level (trees l.ts)))

abbrev pub invariant-put_more_branches-loop-at : goal.invariant-put_more_branches-loop-at
invariant-put_more_branches-loop-at l =
    written l.out.items (continued comma (branches_tokens l.th l.level l.d l.at (arms (drop l.at l.bs))))
    ≡ written l.fn.out.items (continued comma (branches_tokens l.th l.level l.d 1 (arms (drop 1 l.bs))))

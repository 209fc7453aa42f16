use Rattle.std.proofs.Common.{◌≡◌, ◌+◌, ◌*◌, drop}
use Rattle.tg_accept.specs.Faults.{each_calls, each_call_of, is_lower_use}
use Rattle.tg_model.specs.Tree.{trees}
use Rattle.tg_term.specs.Measures.{height, heights, heights_within}
use Rattle.tg_term.specs.View.{arms}
use Rattle.tg_theory.specs.Matched.{recursive}
use Rattle.tg_theory.proofs.calls.+uses.Given as goal

abbrev pub decreases-uses_are_lower : goal.decreases-uses_are_lower
decreases-uses_are_lower l = 2 * height l.t.now + 1

abbrev pub decreases-all_lower : goal.decreases-all_lower
decreases-all_lower l = 2 * heights (trees l.ts.now)

abbrev pub decreases-branches_lower : goal.decreases-branches_lower
decreases-branches_lower l = 2 * heights_within (arms l.bs.now)

-- what is left decides
abbrev pub invariant-all_lower-loop-t : goal.invariant-all_lower-loop-t
invariant-all_lower-loop-t l =
    each_calls (is_lower_use l.own.function l.own.place l.own.others (recursive l.own.arguments)) (trees (drop l.t-index l.ts))
    ≡ each_calls (is_lower_use l.own.function l.own.place l.own.others (recursive l.own.arguments)) (trees l.ts)

abbrev pub invariant-branches_lower-loop-b : goal.invariant-branches_lower-loop-b
invariant-branches_lower-loop-b l =
    each_call_of (is_lower_use l.own.function l.own.place l.own.others (recursive l.own.arguments)) (arms (drop l.b-index l.bs))
    ≡ each_call_of (is_lower_use l.own.function l.own.place l.own.others (recursive l.own.arguments)) (arms l.bs)

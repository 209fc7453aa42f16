use Rattle.std.proofs.Common.{◌≡◌, ◌+◌, ◌*◌, drop}
use Rattle.tg_accept.specs.Faults.{each_puts, each_put_of}
use Rattle.tg_model.specs.Tree.{trees}
use Rattle.tg_term.specs.Measures.{height, heights, heights_within}
use Rattle.tg_term.specs.View.{arms}
use Rattle.tg_theory.proofs.calls.+puts.Given as goal

abbrev pub decreases-calls_on_inputs : goal.decreases-calls_on_inputs
decreases-calls_on_inputs l = 2 * height l.t.now + 1

abbrev pub decreases-call_on_inputs : goal.decreases-call_on_inputs
decreases-call_on_inputs l = 2 * heights (trees l.ts.now)

abbrev pub decreases-branches_call_on_inputs : goal.decreases-branches_call_on_inputs
decreases-branches_call_on_inputs l = 2 * heights_within (arms l.bs.now)

-- what is left decides
abbrev pub invariant-call_on_inputs-loop-t : goal.invariant-call_on_inputs-loop-t
invariant-call_on_inputs-loop-t l = each_puts l.count (trees (drop l.t-index l.ts)) ≡ each_puts l.count (trees l.ts)

abbrev pub invariant-branches_call_on_inputs-loop-b : goal.invariant-branches_call_on_inputs-loop-b
invariant-branches_call_on_inputs-loop-b l = each_put_of l.count (arms (drop l.b-index l.bs)) ≡ each_put_of l.count (arms l.bs)

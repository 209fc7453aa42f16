use Rattle.std.proofs.Common.{◌≡◌, ◌+◌, ◌*◌, drop}
use Rattle.tg_model.specs.Calls.{have_call, branches_have_call}
use Rattle.tg_model.specs.Tree.{trees}
use Rattle.tg_term.specs.Measures.{height, heights, heights_within}
use Rattle.tg_term.specs.View.{arms}
use Rattle.tg_term.proofs.using.+calls.Given as goal

abbrev pub decreases-calls_program : goal.decreases-calls_program
decreases-calls_program l = 2 * height l.t.now + 1

abbrev pub decreases-call_program : goal.decreases-call_program
decreases-call_program l = 2 * heights (trees l.ts.now)

abbrev pub decreases-branches_call_program : goal.decreases-branches_call_program
decreases-branches_call_program l = 2 * heights_within (arms l.bs.now)

-- what is left decides
abbrev pub invariant-call_program-loop-t : goal.invariant-call_program-loop-t
invariant-call_program-loop-t l = have_call (trees (drop l.t-index l.ts)) ≡ have_call (trees l.ts)

abbrev pub invariant-branches_call_program-loop-b : goal.invariant-branches_call_program-loop-b
invariant-branches_call_program-loop-b l = branches_have_call (arms (drop l.b-index l.bs)) ≡ branches_have_call (arms l.bs)

use Rattle.std.proofs.Common.{◌≡◌, ◌+◌, ◌*◌, drop}
use Rattle.tg_model.specs.Tree.{trees}
use Rattle.tg_term.specs.Measures.{height, heights}
use Rattle.tg_norm.specs.Halves.{first_plain, all_conditions}
use Rattle.tg_norm.proofs.splitting.+condition.Given as goal

abbrev pub decreases-condition_of : goal.decreases-condition_of
decreases-condition_of l = 2 * height l.t.now + 1

abbrev pub decreases-condition_at : goal.decreases-condition_at
decreases-condition_at l = 2 * heights (trees l.ts.now)

abbrev pub decreases-condition_among : goal.decreases-condition_among
decreases-condition_among l = 2 * heights (trees l.ts.now)

-- what is left decides
abbrev pub invariant-condition_among-loop-t : goal.invariant-condition_among-loop-t
invariant-condition_among-loop-t l = first_plain (all_conditions (trees (drop l.t-index l.ts))) ≡ first_plain (all_conditions (trees l.ts))

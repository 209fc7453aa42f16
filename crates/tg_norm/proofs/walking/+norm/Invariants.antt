use Rattle.std.proofs.Common.{◌+◌, ◌*◌, take}
use Rattle.tg_norm.specs.Walking.{IsReached, AreReached, or_else}
use Rattle.tg_norm.proofs.walking.+norm.Given as goal

abbrev pub decreases-walk : goal.decreases-walk
decreases-walk l = 4 * l.levels + 3

abbrev pub decreases-walk_on : goal.decreases-walk_on
decreases-walk_on l = 4 * l.levels + 2

abbrev pub decreases-take_turn : goal.decreases-take_turn
decreases-take_turn l = 4 * l.levels + 1

abbrev pub decreases-walk_arguments : goal.decreases-walk_arguments
decreases-walk_arguments l = 4 * l.levels + 4

abbrev pub invariant-walk_arguments-loop-at : goal.invariant-walk_arguments-loop-at
invariant-walk_arguments-loop-at l = AreReached l.th l.levels l.initial.run l.run l.ts l.at (or_else l.forms.items (take l.at l.ts))

abbrev pub invariant-walk_on-loop-now : goal.invariant-walk_on-loop-now
invariant-walk_on-loop-now l = IsReached l.th l.levels l.initial.run l.run l.fn.t l.now

abbrev pub decreases-walk_on-loop-now : goal.decreases-walk_on-loop-now
decreases-walk_on-loop-now l = l.run.left

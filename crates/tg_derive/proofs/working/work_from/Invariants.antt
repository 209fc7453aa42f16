use Rattle.std.proofs.Common.{◌+◌, ◌*◌, length, map, [], ◌∷◌}
use Rattle.tg_clause.specs.Answers.{literals}
use Rattle.tg_derive.specs.Answers.{goals}
use Rattle.tg_derive.specs.Working.{IsReached, first_goal}
use Rattle.tg_derive.proofs.working.work_from.Given as goal

abbrev pub invariant-loop-goal : goal.invariant-loop-goal
invariant-loop-goal l = IsReached l.th l.initial.left (first_goal l.fn.start ∷ []) (map literals l.found.items) l.left (goals l.stack.items)

abbrev pub decreases-loop-goal : goal.decreases-loop-goal
decreases-loop-goal l = 2 * l.left.splits + length l.stack.items

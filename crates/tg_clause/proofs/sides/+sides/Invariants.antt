use Rattle.std.proofs.Common.{◌+◌, ◌*◌, max}
use Rattle.tg_term.specs.Measures.{height}
use Rattle.tg_clause.proofs.sides.+sides.Given as goal

abbrev pub decreases-sides_of_term : goal.decreases-sides_of_term
decreases-sides_of_term l = 2 * height l.t.now + 1

abbrev pub decreases-conjunction : goal.decreases-conjunction
decreases-conjunction l = 2 * max (height l.a.now) (height l.b.now) + 2

abbrev pub decreases-disjunction : goal.decreases-disjunction
decreases-disjunction l = 2 * max (height l.a.now) (height l.b.now) + 2

abbrev pub decreases-implication : goal.decreases-implication
decreases-implication l = 2 * max (height l.a.now) (height l.b.now) + 2

abbrev pub decreases-equality : goal.decreases-equality
decreases-equality l = 2 * max (height l.a.now) (height l.b.now) + 2

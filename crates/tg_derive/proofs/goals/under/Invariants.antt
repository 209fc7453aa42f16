use Rattle.std.proofs.Common.{◌≡◌, length}
use Rattle.tg_derive.specs.Goals.{under}
use Rattle.tg_derive.proofs.goals.under.Given as goal

abbrev pub invariant-loop-q : goal.invariant-loop-q
invariant-loop-q l = under l.left l.t ≡ under l.fn.conditions l.fn.t

abbrev pub decreases-loop-q : goal.decreases-loop-q
decreases-loop-q l = length l.left

use Rattle.std.proofs.Common.{length}
use Rattle.tg_infer.specs.Binders.{binders}
use Rattle.tg_infer.proofs.EnteringLaws.{AreLeaving}
use Rattle.tg_infer.proofs.entering.leave_to.Given as goal

abbrev pub invariant-loop-outer : goal.invariant-loop-outer
invariant-loop-outer l = AreLeaving l.initial.outer l.outer l.len

abbrev pub decreases-loop-outer : goal.decreases-loop-outer
decreases-loop-outer l = length (binders l.outer)

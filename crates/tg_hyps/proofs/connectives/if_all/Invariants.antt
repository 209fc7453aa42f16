use Rattle.std.proofs.Common.{◌≡◌, length}
use Rattle.tg_hyps.specs.Hypotheses.{if_all}
use Rattle.tg_hyps.proofs.connectives.if_all.Given as goal

abbrev pub invariant-loop-t : goal.invariant-loop-t
invariant-loop-t l = if_all l.left l.f ≡ if_all l.fn.ts l.fn.f

abbrev pub decreases-loop-t : goal.decreases-loop-t
decreases-loop-t l = length l.left

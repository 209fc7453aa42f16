use Rattle.std.proofs.Common.{◌≡◌, length, map}
use Rattle.tg_model.specs.Closing.{for_some}
use Rattle.tg_types.specs.Types.{ty}
use Rattle.tg_hyps.proofs.closures.for_some.Given as goal

abbrev pub invariant-loop-t : goal.invariant-loop-t
invariant-loop-t l = for_some (map ty l.left) l.f ≡ for_some (map ty l.fn.vars) l.fn.f

abbrev pub decreases-loop-t : goal.decreases-loop-t
decreases-loop-t l = length l.left

use Rattle.std.proofs.Common.{◌≡◌, drop}
use Rattle.tg_calculus.specs.Sequent.{has}
use Rattle.tg_kernel.proofs.hypotheses.has.Given as goal

-- what is left decides
abbrev pub invariant-loop-g : goal.invariant-loop-g
invariant-loop-g l = has (drop l.g-index l.fs) l.f ≡ has l.fs l.f

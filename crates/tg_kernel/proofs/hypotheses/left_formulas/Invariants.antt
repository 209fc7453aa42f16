use Rattle.std.proofs.Common.{◌≡◌, ◌++◌, drop}
use Rattle.tg_calculus.specs.Sequent.{◌∖◌}
use Rattle.tg_kernel.proofs.hypotheses.left_formulas.Given as goal

-- with what is left of the rest it is the whole
abbrev pub invariant-loop-g : goal.invariant-loop-g
invariant-loop-g l = l.out ++ drop l.g-index l.fs ∖ l.f ≡ l.fs ∖ l.f

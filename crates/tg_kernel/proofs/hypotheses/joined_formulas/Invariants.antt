use Rattle.std.proofs.Common.{◌≡◌, drop}
use Rattle.tg_calculus.specs.Sequent.{◌∪◌}
use Rattle.tg_kernel.proofs.hypotheses.joined_formulas.Given as goal

-- with what is left it is the union
abbrev pub invariant-loop-g : goal.invariant-loop-g
invariant-loop-g l = l.out ∪ drop l.g-index l.gs ≡ l.fs ∪ l.gs

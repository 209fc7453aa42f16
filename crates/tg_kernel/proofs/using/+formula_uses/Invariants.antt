use Rattle.tg_term.specs.FormulaMeasures.{formula_height}
use Rattle.tg_kernel.proofs.using.+formula_uses.Given as goal

abbrev pub decreases-formula_uses : goal.decreases-formula_uses
decreases-formula_uses l = formula_height l.f.now

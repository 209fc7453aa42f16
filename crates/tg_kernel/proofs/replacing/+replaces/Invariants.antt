use Rattle.tg_term.specs.FormulaMeasures.{formula_height}
use Rattle.tg_kernel.proofs.replacing.+replaces.Given as goal

abbrev pub decreases-replaces : goal.decreases-replaces
decreases-replaces l = formula_height l.f.now

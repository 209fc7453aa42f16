use Rattle.tg_term.specs.FormulaMeasures.{formula_height}
use Rattle.tg_kernel.proofs.comparing.+alike.Given as goal

abbrev pub decreases-is_alike : goal.decreases-is_alike
decreases-is_alike l = formula_height l.f.now

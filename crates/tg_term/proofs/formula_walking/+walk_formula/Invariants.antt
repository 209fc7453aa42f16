use Rattle.tg_term.specs.FormulaMeasures.{formula_height}
use Rattle.tg_term.proofs.formula_walking.+walk_formula.Given as goal

abbrev pub decreases-walk_formula_at : goal.decreases-walk_formula_at
decreases-walk_formula_at g l = formula_height l.f.now

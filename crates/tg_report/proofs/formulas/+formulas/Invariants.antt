use Rattle.std.proofs.Common.{◌+◌, ◌*◌, max}
use Rattle.tg_term.specs.FormulaMeasures.{formula_height}
use Rattle.tg_report.proofs.formulas.+formulas.Given as goal

abbrev pub decreases-put_formula_at : goal.decreases-put_formula_at
decreases-put_formula_at l = 2 * formula_height l.f.now + 1

abbrev pub decreases-put_connected : goal.decreases-put_connected
decreases-put_connected l = 2 * max (formula_height l.f.now) (formula_height l.g.now) + 2

abbrev pub decreases-put_quantified : goal.decreases-put_quantified
decreases-put_quantified l = 2 * formula_height l.f.now + 2

abbrev pub decreases-put_marked : goal.decreases-put_marked
decreases-put_marked l = 2 * formula_height l.f.now + 2

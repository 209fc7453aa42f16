use Rattle.std.proofs.Common.{◌+◌, ◌*◌}
use Rattle.tg_standing.specs.Formulas.{raw_formula}
use Rattle.tg_standing.proofs.FormulaLaws.{formulas_in}
use Rattle.tg_standing.proofs.formulas.+formula.Given as goal

abbrev pub decreases-whole : goal.decreases-whole
decreases-whole l = 4 * formulas_in (raw_formula l.raw.now) + 1

abbrev pub decreases-node : goal.decreases-node
decreases-node l = 4 * formulas_in (raw_formula l.raw.now)

abbrev pub decreases-both : goal.decreases-both
decreases-both l = 4 * (formulas_in (raw_formula l.f.now) + formulas_in (raw_formula l.g.now)) + 2

abbrev pub decreases-quantified : goal.decreases-quantified
decreases-quantified l = 4 * formulas_in (raw_formula l.f.now) + 2

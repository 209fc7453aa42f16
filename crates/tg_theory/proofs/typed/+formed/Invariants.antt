use Rattle.std.proofs.Common.{◌+◌, ◌*◌, max}
use Rattle.tg_term.specs.FormulaMeasures.{formula_height}
use Rattle.tg_theory.proofs.typed.+formed.Given as goal

abbrev pub decreases-is_formed : goal.decreases-is_formed
decreases-is_formed l = 2 * formula_height l.f.now

abbrev pub decreases-are_both_formed : goal.decreases-are_both_formed
decreases-are_both_formed l = 2 * max (formula_height l.f.now) (formula_height l.g.now) + 1

abbrev pub decreases-is_quantified_formed : goal.decreases-is_quantified_formed
decreases-is_quantified_formed l = 2 * formula_height l.f.now + 1

use Rattle.std.proofs.Common.{◌+◌, ◌*◌, length}
use Rattle.tg_reading.proofs.formulas.+formulas.Given as goal

abbrev pub decreases-formula : goal.decreases-formula
decreases-formula l = 16 * length l.reader.now

abbrev pub decreases-for_all : goal.decreases-for_all
decreases-for_all l = 16 * length l.reader.now + 1

abbrev pub decreases-there_is : goal.decreases-there_is
decreases-there_is l = 16 * length l.reader.now + 1

abbrev pub decreases-quantified : goal.decreases-quantified
decreases-quantified l = 16 * length l.reader.now + 1

abbrev pub decreases-test_hypothesis : goal.decreases-test_hypothesis
decreases-test_hypothesis l = 16 * length l.reader.now + 1

abbrev pub decreases-marked_formula : goal.decreases-marked_formula
decreases-marked_formula l = 16 * length l.reader.now + 2

abbrev pub decreases-inner_formula : goal.decreases-inner_formula
decreases-inner_formula l = 16 * length l.reader.now + 3

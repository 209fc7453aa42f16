use Rattle.std.proofs.Common.{◌+◌, ◌*◌, ◌≡◌, ◌≤◌, length}
use Rattle.tg_rules.specs.Repetition.{with_front, fold_from}
use Rattle.tg_grammar.specs.Making.{chained}
use Rattle.tg_grammar.specs.Page.{branches, arguments}
use Rattle.tg_grammar.specs.Parts.{MoreSummands, MoreFactors}
use Rattle.tg_grammar.specs.Reading.{reads}
use Rattle.tg_reading.specs.Answers.{by_rule}
use Rattle.tg_reading.specs.Modes.{mode_view}
use Rattle.tg_reading.proofs.terms.+terms.Given as goal

abbrev pub decreases-term : goal.decreases-term
decreases-term l = 16 * length l.reader.now + 14

abbrev pub decreases-add_term : goal.decreases-add_term
decreases-add_term l = 16 * length l.reader.now

abbrev pub decreases-conditional : goal.decreases-conditional
decreases-conditional l = 16 * length l.reader.now + 1

abbrev pub decreases-binding : goal.decreases-binding
decreases-binding l = 16 * length l.reader.now + 1

abbrev pub decreases-cases : goal.decreases-cases
decreases-cases l = 16 * length l.reader.now + 1

abbrev pub decreases-branch : goal.decreases-branch
decreases-branch l = 16 * length l.reader.now

abbrev pub decreases-branches : goal.decreases-branches
decreases-branches l = 16 * length l.reader.now + 1

abbrev pub decreases-implication : goal.decreases-implication
decreases-implication l = 16 * length l.reader.now + 13

abbrev pub decreases-disjunction : goal.decreases-disjunction
decreases-disjunction l = 16 * length l.reader.now + 12

abbrev pub decreases-conjunction : goal.decreases-conjunction
decreases-conjunction l = 16 * length l.reader.now + 11

abbrev pub decreases-negation : goal.decreases-negation
decreases-negation l = 16 * length l.reader.now + 10

abbrev pub decreases-comparison : goal.decreases-comparison
decreases-comparison l = 16 * length l.reader.now + 9

abbrev pub decreases-sum : goal.decreases-sum
decreases-sum l = 16 * length l.reader.now + 8

abbrev pub decreases-more_summands : goal.decreases-more_summands
decreases-more_summands l = 16 * length l.reader.now + 9

abbrev pub decreases-summand : goal.decreases-summand
decreases-summand l = 16 * length l.reader.now + 8

abbrev pub decreases-product : goal.decreases-product
decreases-product l = 16 * length l.reader.now + 7

abbrev pub decreases-more_factors : goal.decreases-more_factors
decreases-more_factors l = 16 * length l.reader.now + 8

abbrev pub decreases-factor : goal.decreases-factor
decreases-factor l = 16 * length l.reader.now + 7

abbrev pub decreases-application : goal.decreases-application
decreases-application l = 16 * length l.reader.now + 6

abbrev pub decreases-atom : goal.decreases-atom
decreases-atom l = 16 * length l.reader.now + 3

abbrev pub decreases-atoms : goal.decreases-atoms
decreases-atoms l = 16 * length l.reader.now + 5

abbrev pub decreases-arguments : goal.decreases-arguments
decreases-arguments l = 16 * length l.reader.now + 4

abbrev pub decreases-plain_atom : goal.decreases-plain_atom
decreases-plain_atom l = 16 * length l.reader.now + 2

abbrev pub decreases-last_atom : goal.decreases-last_atom
decreases-last_atom l = 16 * length l.reader.now + 1

abbrev pub decreases-enclosed : goal.decreases-enclosed
decreases-enclosed l = 16 * length l.reader.now

abbrev pub invariant-branches-loop-branches : goal.invariant-branches-loop-branches
invariant-branches-loop-branches l = record {
  so_far : with_front l.branches (by_rule (branches (mode_view l.mode)) l.reader) ≡ by_rule (branches (mode_view l.mode)) l.fn.reader;
  shorter : length l.reader ≤ length l.fn.reader;
}

abbrev pub decreases-branches-loop-branches : goal.decreases-branches-loop-branches
decreases-branches-loop-branches l = length l.reader

abbrev pub invariant-arguments-loop-arguments : goal.invariant-arguments-loop-arguments
invariant-arguments-loop-arguments l = record {
  so_far : with_front l.arguments (by_rule (arguments (mode_view l.mode)) l.reader) ≡ by_rule (arguments (mode_view l.mode)) l.fn.reader;
  shorter : length l.reader ≤ length l.fn.reader;
}

abbrev pub decreases-arguments-loop-arguments : goal.decreases-arguments-loop-arguments
decreases-arguments-loop-arguments l = length l.reader

abbrev pub invariant-more_summands-loop-operator : goal.invariant-more_summands-loop-operator
invariant-more_summands-loop-operator l = record {
  so_far : fold_from chained l.sum (reads (MoreSummands (mode_view l.mode)) l.reader) ≡ fold_from chained l.fn.first (reads (MoreSummands (mode_view l.mode)) l.fn.reader);
  shorter : length l.reader ≤ length l.fn.reader;
}

abbrev pub decreases-more_summands-loop-operator : goal.decreases-more_summands-loop-operator
decreases-more_summands-loop-operator l = length l.reader

abbrev pub invariant-more_factors-loop-operator : goal.invariant-more_factors-loop-operator
invariant-more_factors-loop-operator l = record {
  so_far : fold_from chained l.product (reads (MoreFactors (mode_view l.mode)) l.reader) ≡ fold_from chained l.fn.first (reads (MoreFactors (mode_view l.mode)) l.fn.reader);
  shorter : length l.reader ≤ length l.fn.reader;
}

abbrev pub decreases-more_factors-loop-operator : goal.decreases-more_factors-loop-operator
decreases-more_factors-loop-operator l = length l.reader

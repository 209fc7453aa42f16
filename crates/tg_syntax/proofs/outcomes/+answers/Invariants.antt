use Rattle.std.proofs.Common.{◌+◌, ◌*◌, ◌≡◌, ◌≤◌, length}
use Rattle.tg_rules.specs.Repetition.{with_front}
use Rattle.tg_grammar.specs.Parts.{AnswerAtoms}
use Rattle.tg_grammar.specs.Reading.{reads}
use Rattle.tg_syntax.proofs.outcomes.+answers.Given as goal

abbrev pub decreases-plain_answer : goal.decreases-plain_answer
decreases-plain_answer l = 16 * length l.reader.now

abbrev pub decreases-answer : goal.decreases-answer
decreases-answer l = 16 * length l.reader.now + 1

abbrev pub decreases-answer_atom : goal.decreases-answer_atom
decreases-answer_atom l = 16 * length l.reader.now + 1

abbrev pub decreases-answer_atoms : goal.decreases-answer_atoms
decreases-answer_atoms l = 16 * length l.reader.now + 2

abbrev pub invariant-answer_atoms-loop-alloc : goal.invariant-answer_atoms-loop-alloc
invariant-answer_atoms-loop-alloc l = record {
  so_far : with_front l.atoms (reads AnswerAtoms l.reader) ≡ reads AnswerAtoms l.fn.reader;
  shorter : length l.reader ≤ length l.fn.reader;
}

abbrev pub decreases-answer_atoms-loop-alloc : goal.decreases-answer_atoms-loop-alloc
decreases-answer_atoms-loop-alloc l = length l.reader

use Rattle.std.proofs.Common.{◌≡◌, ◌≤◌, length}
use Rattle.tg_rules.specs.Repetition.{with_front}
use Rattle.tg_grammar.specs.Page.{constructors_of}
use Rattle.tg_reading.specs.Answers.{by_rule}
use Rattle.tg_syntax.proofs.datatypes.constructors.Given as goal

abbrev pub invariant-loop-constructors : goal.invariant-loop-constructors
invariant-loop-constructors l = record {
  so_far : with_front l.constructors (by_rule constructors_of l.reader) ≡ by_rule constructors_of l.fn.reader;
  shorter : length l.reader ≤ length l.fn.reader;
}

abbrev pub decreases-loop-constructors : goal.decreases-loop-constructors
decreases-loop-constructors l = length l.reader

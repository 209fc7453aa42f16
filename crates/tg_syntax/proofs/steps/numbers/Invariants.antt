use Rattle.std.proofs.Common.{◌≡◌, ◌≤◌, length}
use Rattle.tg_rules.specs.Repetition.{with_front}
use Rattle.tg_grammar.specs.Parts.{Numbers}
use Rattle.tg_grammar.specs.Reading.{reads}
use Rattle.tg_syntax.proofs.steps.numbers.Given as goal

abbrev pub invariant-loop-number : goal.invariant-loop-number
invariant-loop-number l = record {
  so_far : with_front l.numbers (reads Numbers l.reader) ≡ reads Numbers l.fn.reader;
  shorter : length l.reader ≤ length l.fn.reader;
}

abbrev pub decreases-loop-number : goal.decreases-loop-number
decreases-loop-number l = length l.reader

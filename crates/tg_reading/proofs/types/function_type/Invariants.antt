use Rattle.std.proofs.Common.{◌≡◌, ◌≤◌, length}
use Rattle.tg_rules.specs.Repetition.{with_front}
use Rattle.tg_grammar.specs.Parts.{FunctionType}
use Rattle.tg_grammar.specs.Reading.{reads}
use Rattle.tg_reading.proofs.types.function_type.Given as goal

abbrev pub invariant-loop-types : goal.invariant-loop-types
invariant-loop-types l = record {
  so_far : with_front l.types (reads FunctionType l.reader) ≡ reads FunctionType l.fn.reader;
  shorter : length l.reader ≤ length l.fn.reader;
}

abbrev pub decreases-loop-types : goal.decreases-loop-types
decreases-loop-types l = length l.reader

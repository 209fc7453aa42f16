use Rattle.std.proofs.Common.{◌≡◌, ◌≤◌, length}
use Rattle.tg_rules.specs.Repetition.{with_front}
use Rattle.tg_grammar.specs.Parts.{Variables}
use Rattle.tg_grammar.specs.Reading.{reads}
use Rattle.tg_reading.specs.Modes.{mode_view}
use Rattle.tg_reading.proofs.binders.variables.Given as goal

abbrev pub invariant-loop-alloc : goal.invariant-loop-alloc
invariant-loop-alloc l = record {
  so_far : with_front l.variables (reads (Variables (mode_view l.mode)) l.reader) ≡ reads (Variables (mode_view l.mode)) l.fn.reader;
  shorter : length l.reader ≤ length l.fn.reader;
}

abbrev pub decreases-loop-alloc : goal.decreases-loop-alloc
decreases-loop-alloc l = length l.reader

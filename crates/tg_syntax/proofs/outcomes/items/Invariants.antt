use Rattle.std.proofs.Common.{◌≡◌, ◌≤◌, length}
use Rattle.tg_rules.specs.Repetition.{with_front}
use Rattle.tg_grammar.specs.Parts as parts
use Rattle.tg_grammar.specs.Reading.{reads}
use Rattle.tg_syntax.proofs.outcomes.items.Given as goal

abbrev pub invariant-loop-alloc : goal.invariant-loop-alloc
invariant-loop-alloc l = record {
  so_far : with_front l.items (reads parts.Items l.reader) ≡ reads parts.Items l.fn.reader;
  shorter : length l.reader ≤ length l.fn.reader;
}

abbrev pub decreases-loop-alloc : goal.decreases-loop-alloc
decreases-loop-alloc l = length l.reader

use Rattle.std.proofs.Common.{◌+◌, ◌*◌, ◌≡◌, ◌≤◌, [], ◌∷◌, length}
use Rattle.tg_rules.specs.Repetition.{with_front}
use Rattle.tg_reading.specs.Pieces.{types_by_commas}
use Rattle.tg_reading.proofs.types.+types.Given as goal

abbrev pub decreases-whole_type : goal.decreases-whole_type
decreases-whole_type l = 8 * length l.reader.now

abbrev pub decreases-behind_first : goal.decreases-behind_first
decreases-behind_first l = 8 * length l.reader.now + 2

abbrev pub decreases-types : goal.decreases-types
decreases-types l = 8 * length l.reader.now + 1

abbrev pub invariant-types-loop-types : goal.invariant-types-loop-types
invariant-types-loop-types l = record {
  so_far : with_front l.types (types_by_commas l.reader) ≡ with_front (l.fn.first ∷ []) (types_by_commas l.fn.reader);
  shorter : length l.reader ≤ length l.fn.reader;
}

abbrev pub decreases-types-loop-types : goal.decreases-types-loop-types
decreases-types-loop-types l = length l.reader

use Rattle.std.proofs.Common.{◌≡◌, ◌≤◌, length}
use Rattle.tg_rules.specs.Repetition.{with_front}
use Rattle.tg_syntax.specs.Steps.{type_atoms_by_commas}
use Rattle.tg_syntax.proofs.steps.type_atoms_by_commas.Given as goal

abbrev pub invariant-loop-types : goal.invariant-loop-types
invariant-loop-types l = record {
  so_far : with_front l.types (type_atoms_by_commas l.reader) ≡ type_atoms_by_commas l.fn.reader;
  shorter : length l.reader ≤ length l.fn.reader;
}

abbrev pub decreases-loop-types : goal.decreases-loop-types
decreases-loop-types l = length l.reader

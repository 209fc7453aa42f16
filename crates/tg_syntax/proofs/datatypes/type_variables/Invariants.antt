use Rattle.std.proofs.Common.{◌≡◌, ◌≤◌, [], ◌∷◌, length}
use Rattle.tg_rules.specs.Repetition.{with_front}
use Rattle.tg_grammar.specs.Page.{parameters}
use Rattle.tg_reading.specs.Answers.{by_rule}
use Rattle.tg_syntax.proofs.datatypes.type_variables.Given as goal

abbrev pub invariant-loop-names : goal.invariant-loop-names
invariant-loop-names l = record {
  so_far : with_front l.names (by_rule parameters l.reader) ≡ with_front (l.fn.first ∷ []) (by_rule parameters l.fn.reader);
  shorter : length l.reader ≤ length l.fn.reader;
}

abbrev pub decreases-loop-names : goal.decreases-loop-names
decreases-loop-names l = length l.reader

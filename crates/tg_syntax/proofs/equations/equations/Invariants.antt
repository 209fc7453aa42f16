use Rattle.std.proofs.Common.{◌≡◌, ◌≤◌, length}
use Rattle.tg_rules.specs.Repetition.{with_front}
use Rattle.tg_grammar.specs.Page.{equations}
use Rattle.tg_reading.specs.Answers.{by_rule}
use Rattle.tg_syntax.proofs.equations.equations.Given as goal

abbrev pub invariant-loop-equations : goal.invariant-loop-equations
invariant-loop-equations l = record {
  so_far : with_front l.equations (by_rule equations l.reader) ≡ by_rule equations l.fn.reader;
  shorter : length l.reader ≤ length l.fn.reader;
}

abbrev pub decreases-loop-equations : goal.decreases-loop-equations
decreases-loop-equations l = length l.reader

use Rattle.std.proofs.Common.{◌≡◌, ◌<◌, drop, length}
use Rattle.tg_rules.specs.Reader.{mapped}
use Rattle.tg_grammar.specs.Making.{with_arguments}
use Rattle.tg_grammar.specs.Parts.{Step}
use Rattle.tg_grammar.specs.Reading.{reads}
use Rattle.tg_syntax.specs.Steps.{arguments_read}
use Rattle.tg_syntax.proofs.steps.step.Given as goal

abbrev pub invariant-loop-argument : goal.invariant-loop-argument
invariant-loop-argument l = record {
  so_far : mapped (with_arguments l.line) (arguments_read (drop l.argument-index l.wanted) l.reader) ≡ reads Step l.fn.reader;
  shorter : length l.reader < length l.fn.reader;
}

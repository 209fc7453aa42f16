use Rattle.std.proofs.Common.{sym, ◌∙◌, arith}
use Rattle.tg_syntax.proofs.StepRules.{loop_next}
use Rattle.tg_syntax.proofs.steps.step.Goals as goal

pub loop-argument-preserved : goal.loop-argument-preserved
loop-argument-preserved c = record {
  so_far =
      sym (loop_next c.loop-argument.line c.add_argument.new.line c.arguments_of-wanted.result.now c.loop-argument.argument-index _ c.loop-argument.reader c.add_argument.new.reader
      c.loop-argument-test.true c.in_ok-add_argument.ensures.exact) ∙ c.loop-argument.invariant.so_far;
  shorter = omega (arith, c.in_ok-add_argument.ensures.less, c.loop-argument.invariant.shorter);
}

use Rattle.std.proofs.Common.{false, arith}
use Rattle.tg_solver.proofs.StageLaws.{stages_more}
use Rattle.tg_solver.proofs.stages.stages.Goals as goal

pub loop-truth-preserved : goal.loop-truth-preserved
loop-truth-preserved c = record {
  counted = omega arith;
  made = stages_more c.args.count c.loop-truth.number c.loop-truth.truth-index c.args.truths.now c.args.constraints.now false c.loop-truth.out c.push.new.self c.in_ok-decided.decided
      c.loop-truth-test.true c.loop-truth.invariant.counted c.loop-truth.invariant.made c.in_ok-decided.ensures c.in_ok-push.ensures.ok;
}

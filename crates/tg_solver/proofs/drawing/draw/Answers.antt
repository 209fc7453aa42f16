use Rattle.std.proofs.Common.{false}
use Rattle.tg_solver.proofs.DrawLaws.{draw_more}
use Rattle.tg_solver.proofs.drawing.draw.Goals as goal

pub loop-truth-preserved : goal.loop-truth-preserved
loop-truth-preserved c =
    let m = draw_more c.args.width c.loop-truth.truth-index c.args.truths.now false c.args.rng.now c.loop-truth.rng c.next.new.rng c.loop-truth.vars.items c.push.new.self.items
    c.next.result c.of_word-value.result c.loop-truth-test.true c.loop-truth.invariant.drawn c.loop-truth.invariant.left c.next.ensures.word c.next.ensures.left
    c.of_word-value.ensures c.in_ok-push.ensures.items in
    record { drawn = m.0; left = m.1 }

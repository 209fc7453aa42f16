use Rattle.std.proofs.Common.{refl}
use Rattle.std.proofs.lemmas.Option.{slice_get_read}
use Rattle.tg_cmd.proofs.LineLaws.{hypothesis_next}
use Rattle.tg_cmd.proofs.report.put_hypotheses.Goals as goal

pub loop-h-preserved : goal.loop-h-preserved
loop-h-preserved c =
    hypothesis_next c.args.th.now c.args.hs.now c.loop-h.h-index c.h-item.result c.args.out.now.items c.loop-h.out.items _
    (slice_get_read c.args.hs.now _ _ c.h-item.result refl c.loop-h-test.true c.h-item.is) c.loop-h.invariant c.in_ok-put_hypothesis.ensures

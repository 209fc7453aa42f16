use Rattle.std.proofs.Common.{refl}
use Rattle.std.proofs.lemmas.Option.{slice_get_read}
use Rattle.tg_cmd.proofs.LineLaws.{counted_next}
use Rattle.tg_cmd.proofs.report.tested_count.Goals as goal

pub loop-choice-preserved : goal.loop-choice-preserved
loop-choice-preserved c =
    counted_next c.args.choices.now c.loop-choice.choice-index c.choice-item.result c.loop-choice.count c.tested_once-count.result
    (slice_get_read c.args.choices.now _ _ c.choice-item.result refl c.loop-choice-test.true c.choice-item.is) c.loop-choice.invariant
    c.tested_once-count.ensures.tested c.tested_once-count.ensures.open

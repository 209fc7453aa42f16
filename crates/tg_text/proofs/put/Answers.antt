use Rattle.tg_text.proofs.Texts.{text_of-next}
use Rattle.tg_text.proofs.put.Goals as goal

pub loop-part-preserved : goal.loop-part-preserved
loop-part-preserved c =
    text_of-next c.args.out.now.items c.loop-part.out.items _ c.args.parts.now c.loop-part.part-index _ c.loop-part-test.true
    c.loop-part.invariant c.in_ok-put_part.ensures.whole

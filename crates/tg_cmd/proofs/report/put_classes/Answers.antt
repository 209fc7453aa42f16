use Rattle.std.proofs.Common.{rules, ◌≡◌, ◌+◌, refl}
use Rattle.std.proofs.lemmas.Option.{slice_get_read}
use Rattle.tg_cmd.proofs.LineLaws.{class_next}
use Rattle.tg_cmd.proofs.report.put_classes.Goals as goal

pub loop-at-preserved : goal.loop-at-preserved
loop-at-preserved c =
    let m : c.in_ok-number.number ≡ c.loop-at.at + 1 = search rules in
    class_next c.args.th.now c.args.classes.now c.args.choices.now c.args.verdicts.now c.loop-at.at c.in_ok-number.number c.index-classes-at.result c.index-choices-at.result c.verdict_at.result
    c.args.out.now.items c.loop-at.out.items _
    (slice_get_read c.args.classes.now _ _ c.index-classes-at.result refl c.loop-at-test.true c.index-classes-at.is)
    (slice_get_read c.args.choices.now _ _ c.index-choices-at.result c.requires c.loop-at-test.true c.index-choices-at.is) m c.verdict_at.ensures c.loop-at.invariant
    c.in_ok-put_chosen.ensures

use Rattle.std.proofs.Common.{rules, ◌≡◌, ◌+◌, refl}
use Rattle.std.proofs.lemmas.Option.{slice_get_read}
use Rattle.tg_cmd.proofs.DataLaws.{choice_next}
use Rattle.tg_cmd.proofs.data.choices_by_data.Goals as goal

pub loop-at-preserved : goal.loop-at-preserved
loop-at-preserved c =
    let m : c.in_ok-number.number ≡ c.loop-at.at + 1 = search rules in
    choice_next c.args.th.now c.args.s.now c.args.classes.now c.loop-at.at c.in_ok-number.number c.index-classes-at.result c.in_ok-choice_by_datum.field-0
    c.loop-at.choices.items _
    (slice_get_read c.args.classes.now _ _ c.index-classes-at.result refl c.loop-at-test.true c.index-classes-at.is) m c.loop-at.invariant
    c.in_ok-choice_by_datum.ensures c.in_ok-push.ensures.items

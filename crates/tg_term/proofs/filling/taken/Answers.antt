use Rattle.std.proofs.Common.{Some, ap, ◌∙◌, refl}
use Rattle.std.proofs.lemmas.Option.{slice_get_read}
use Rattle.tg_term.proofs.MatchLaws.{taken_more, none_taken}
use Rattle.tg_term.proofs.filling.taken.Goals as goal

pub returns-in_default : goal.returns-in_default
returns-in_default c =
    none_taken c.args.slots.now c.loop-slot.slot-index
    (slice_get_read c.args.slots.now _ _ c.slot-item.result refl c.loop-slot-test.true c.slot-item.is ∙ ap Some c.in_default.is)

pub loop-slot-preserved : goal.loop-slot-preserved
loop-slot-preserved c =
    taken_more c.args.slots.now c.loop-slot.slot-index c.in-Some.v _ _ _
    (slice_get_read c.args.slots.now _ _ c.slot-item.result refl c.loop-slot-test.true c.slot-item.is ∙ ap Some c.in-Some.is)
    c.in_ok-push.ensures.items c.in_ok-copy_value.ensures c.loop-slot.invariant

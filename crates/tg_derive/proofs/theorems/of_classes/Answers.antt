use Rattle.std.proofs.Common.{map, refl}
use Rattle.std.proofs.lemmas.Option.{slice_get_read}
use Rattle.tg_derive.specs.Answers.{hypothesis}
use Rattle.tg_derive.proofs.HypothesisLaws.{class_next}
use Rattle.tg_derive.proofs.theorems.of_classes.Goals as goal

pub loop-at-preserved : goal.loop-at-preserved
loop-at-preserved c =
    class_next c.args.classes.now c.args.choices.now c.loop-at.at c.index-classes-at.result c.index-choices-at.result (map hypothesis c.loop-at.hs.items) _
    (slice_get_read c.args.classes.now _ _ c.index-classes-at.result refl c.loop-at-test.true c.index-classes-at.is)
    (slice_get_read c.args.choices.now _ _ c.index-choices-at.result c.requires c.loop-at-test.true c.index-choices-at.is) c.loop-at.invariant c.in_ok-add_class.ensures

use Rattle.std.proofs.Common.{rules, ◌≡◌, ◌+◌, map, refl}
use Rattle.std.proofs.lemmas.Option.{slice_get_read}
use Rattle.tg_harness.specs.Tests.{test}
use Rattle.tg_cmd.proofs.TestLaws.{test_next}
use Rattle.tg_cmd.proofs.judging.tests_of.Goals as goal

pub loop-at-preserved : goal.loop-at-preserved
loop-at-preserved c =
    let m : c.in_ok-number.number ≡ c.loop-at.at + 1 = search rules in
    test_next c.args.classes.now c.args.choices.now c.loop-at.at c.in_ok-number.number c.index-classes-at.result c.index-choices-at.result
    (map test c.loop-at.tests.items) _
    (slice_get_read c.args.classes.now _ _ c.index-classes-at.result refl c.loop-at-test.true c.index-classes-at.is)
    (slice_get_read c.args.choices.now _ _ c.index-choices-at.result c.requires c.loop-at-test.true c.index-choices-at.is) m c.loop-at.invariant
    c.in_ok-add_test.ensures

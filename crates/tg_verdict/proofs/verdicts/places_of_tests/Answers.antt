use Rattle.std.proofs.Common.{refl, ap, ◌∙◌, ◌++◌, ◌∷◌, []}
use Rattle.std.specs.Prelude.{if◌then◌else◌}
use Rattle.std.proofs.lemmas.Option.{slice_get_read}
use Rattle.tg_verdict.specs.Places.{is_among}
use Rattle.tg_verdict.proofs.PlaceLaws.{test_next}
use Rattle.tg_verdict.proofs.verdicts.places_of_tests.Goals as goal

pub loop-test-preserved : goal.loop-test-preserved
loop-test-preserved c =
    let vs = c.loop-test.numbers in
    test_next c.args.tests.now c.loop-test.test-index c.test-item.result vs c.add.new.self c.requires
    (slice_get_read c.args.tests.now _ _ c.test-item.result refl c.loop-test-test.true c.test-item.is) c.loop-test.invariant
    (c.in_ok-add.ensures ∙ ap (λ k. if is_among k vs then vs else vs ++ k ∷ []) c.from.ensures)

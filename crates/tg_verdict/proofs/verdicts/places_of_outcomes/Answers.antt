use Rattle.std.proofs.Common.{refl, ap, ◌∙◌, ◌++◌, ◌∷◌, []}
use Rattle.std.specs.Prelude.{if◌then◌else◌}
use Rattle.std.proofs.lemmas.Option.{slice_get_read}
use Rattle.tg_verdict.specs.Places.{is_among}
use Rattle.tg_verdict.proofs.PlaceLaws.{outcome_next}
use Rattle.tg_verdict.proofs.verdicts.places_of_outcomes.Goals as goal

pub loop-outcome-preserved : goal.loop-outcome-preserved
loop-outcome-preserved c =
    let vs = c.loop-outcome.numbers in
    outcome_next c.args.list.now c.loop-outcome.outcome-index c.outcome-item.result vs c.add.new.self c.requires
    (slice_get_read c.args.list.now _ _ c.outcome-item.result refl c.loop-outcome-test.true c.outcome-item.is) c.loop-outcome.invariant
    (c.in_ok-add.ensures ∙ ap (λ k. if is_among k vs then vs else vs ++ k ∷ []) c.from.ensures)

use Rattle.std.proofs.Common.{ℕ, ◌<◌, get_or, refl, subst}
use Rattle.std.proofs.lemmas.Option.{slice_get_read, slice_get-get_or}
use Rattle.tg_types.specs.declared.verdicts.Verdict.TheVariants.{Passed}
use Rattle.tg_cmd.proofs.TestLaws.{choice_next}
use Rattle.tg_cmd.proofs.judging.choices_by_verdicts.Goals as goal

pub loop-at-preserved : goal.loop-at-preserved
loop-at-preserved c =
    let xs = c.args.choices.now in
    let vs = c.args.verdicts.now in
    let i = c.loop-at.at in
    choice_next xs vs i c.index-choices-at.result c.in_ok-tested_if_passed.field-0 (get_or vs i Passed) c.loop-at.chosen.items _
    (slice_get_read xs _ _ c.index-choices-at.result refl c.loop-at-test.true c.index-choices-at.is)
    (slice_get-get_or vs i Passed (subst (λ (n : ℕ). i < n) c.requires c.loop-at-test.true)) c.loop-at.invariant c.in_ok-tested_if_passed.ensures
    c.in_ok-push.ensures.items

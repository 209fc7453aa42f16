use Rattle.std.proofs.Common.{option_copied, refl}
use Rattle.std.proofs.lemmas.Option.{slice_get_read}
use Rattle.tg_verdict.proofs.VerdictLaws.{verdict_next}
use Rattle.tg_verdict.proofs.verdicts.judge.Goals as goal

pub loop-at-preserved : goal.loop-at-preserved
loop-at-preserved c =
    verdict_next c.args.th.now c.args.tests.now c.args.list.now c.args.classes.now c.loop-at.at _ c.index-classes-at.result
    (option_copied c.test_of-test.result) (option_copied c.outcome_of-outcome.result) c.loop-at.verdicts.items _ c.in_ok-verdict.field-0
    (slice_get_read c.args.classes.now _ _ c.index-classes-at.result refl c.loop-at-test.true c.index-classes-at.is) c.loop-at.invariant refl
    c.test_of-test.ensures c.outcome_of-outcome.ensures c.in_ok-verdict.ensures c.in_ok-push.ensures.items

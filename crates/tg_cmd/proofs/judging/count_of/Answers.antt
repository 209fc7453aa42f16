use Rattle.std.proofs.Common.{get_or}
use Rattle.std.proofs.lemmas.Option.{slice_get-get_or}
use Rattle.tg_types.specs.declared.verdicts.Verdict.TheVariants.{Passed}
use Rattle.tg_cmd.proofs.LineLaws.{counted_verdict}
use Rattle.tg_cmd.proofs.judging.count_of.Goals as goal

pub loop-v-preserved : goal.loop-v-preserved
loop-v-preserved c =
    let vs = c.args.verdicts.now in
    let i = c.loop-v.v-index in
    counted_verdict c.args.wanted vs i (get_or vs i Passed) c.loop-v.count c.once-count.result (slice_get-get_or vs i Passed c.loop-v-test.true)
    c.loop-v.invariant c.once-count.ensures

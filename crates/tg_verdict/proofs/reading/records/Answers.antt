use Rattle.std.proofs.Common.{rules, [], refl}
use Rattle.std.proofs.lemmas.Option.{slice_get_read}
use Rattle.tg_verdict.specs.Records.{RecordsStop}
use Rattle.tg_verdict.proofs.RecordLaws.{reached_next, stopped_at}
use Rattle.tg_verdict.proofs.reading.records.Goals as goal

pub returns-in_err-outcome-clause-stop : goal.returns-in_err-outcome-clause-stop
returns-in_err-outcome-clause-stop c =
    let p : RecordsStop c.args.th.now c.args.known.now [] c.args.items.now c.in_err-outcome.field-0.0 =
    stopped_at c.args.th.now c.args.known.now c.args.items.now c.loop-item.item-index c.item-item.result c.loop-item.outcomes.items c.loop-item.before
    c.in_err-outcome.field-0.0 (slice_get_read c.args.items.now _ _ c.item-item.result refl c.loop-item-test.true c.item-item.is) c.loop-item.invariant
    c.in_err-outcome.ensures.stop in
    search rules

pub loop-item-preserved : goal.loop-item-preserved
loop-item-preserved c =
    reached_next c.args.th.now c.args.known.now c.args.items.now c.loop-item.item-index c.item-item.result c.loop-item.outcomes.items c.add.new.outcomes.items
    c.in_ok-outcome.outcome c.loop-item.before c.add-in-loop-item.new.self
    (slice_get_read c.args.items.now _ _ c.item-item.result refl c.loop-item-test.true c.item-item.is) c.loop-item.invariant c.in_ok-outcome.ensures.outcome
    c.in_ok-add.ensures c.in_ok-add-2.ensures

use Rattle.std.proofs.Common.{rules, ◌≡◌, [], List, map, subst}
use Rattle.tg_grammar.specs.declared.outcomes.RawItem.{RawItem}
use Rattle.tg_verdict.specs.Places.{test_number}
use Rattle.tg_verdict.specs.Records.{in_order, Stops, AreRecords, RecordsStop}
use Rattle.tg_verdict.proofs.RecordLaws.{stops_known, records_known}
use Rattle.tg_verdict.proofs.reading.read.Goals as goal

pub returns-clause-stop : goal.returns-clause-stop
returns-clause-stop c =
    let settings : c.args.raw.now.settings ≡ in_order c.args.s.now = search rules in
    stops_known c.args.th.now c.args.s.now c.in_ok-known.known (map test_number c.args.tests.now) c.args.raw.now c.in-Err.error settings
    c.in_ok-known.ensures (subst (λ (is : List RawItem). RecordsStop c.args.th.now c.in_ok-known.known [] is c.in-Err.error) c.as_slice.ensures c.in-Err.ensures.stop)

pub returns-in-Ok-clause-outcomes : goal.returns-in-Ok-clause-outcomes
returns-in-Ok-clause-outcomes c =
    let settings : c.args.raw.now.settings ≡ in_order c.args.s.now = search rules in
    records_known c.args.th.now c.args.s.now c.in_ok-known.known (map test_number c.args.tests.now) c.args.raw.now c.in-Ok.outcomes.items settings
    c.in_ok-known.ensures
    (subst (λ (is : List RawItem). AreRecords c.args.th.now c.in_ok-known.known [] is c.in-Ok.outcomes.items) c.as_slice.ensures c.in-Ok.ensures.outcomes)

use Rattle.std.proofs.Common.{rules, refl, map}
use Rattle.std.proofs.lemmas.Option.{slice_get_read}
use Rattle.tg_hyps.specs.Hypotheses.{seen}
use Rattle.tg_split.specs.Listing.{pattern}
use Rattle.tg_derive.specs.Answers.{Stops}
use Rattle.tg_derive.specs.Classes.{WorkAt, whole}
use Rattle.tg_derive.proofs.ListingLaws.{reached_next, reached_stop}
use Rattle.tg_derive.proofs.listing.classes_at.Goals as goal

pub returns-in_err-add_classes-clause-limit : goal.returns-in_err-add_classes-clause-limit
returns-in_err-add_classes-clause-limit c =
    let p : Stops (WorkAt c.args.th.now whole (map pattern c.args.ps.now)) c.in_err-add_classes.field-0.0 =
    reached_stop c.args.th.now whole c.loop-p.left (map pattern c.args.ps.now) c.args.ps.now c.loop-p.p-index c.p-item.result (map seen c.loop-p.cs.items) _
    (slice_get_read c.args.ps.now _ _ c.p-item.result refl c.loop-p-test.true c.p-item.is) c.loop-p.invariant c.in_err-add_classes.ensures.limit in
    search rules

pub loop-p-preserved : goal.loop-p-preserved
loop-p-preserved c =
    reached_next c.args.th.now whole c.loop-p.left c.add_classes.new.left (map pattern c.args.ps.now) c.args.ps.now c.loop-p.p-index c.p-item.result
    (map seen c.loop-p.cs.items) _ (slice_get_read c.args.ps.now _ _ c.p-item.result refl c.loop-p-test.true c.p-item.is) c.loop-p.invariant c.in_ok-add_classes.ensures.ok

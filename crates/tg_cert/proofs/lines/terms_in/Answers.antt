use Rattle.std.proofs.Common.{◌≡◌, Option, Some, refl, subst}
use Rattle.std.specs.Prelude.{slice_get}
use Rattle.std.proofs.lemmas.Option.{slice_get_read}
use Rattle.tg_model.specs.Tree.{Tree}
use Rattle.tg_accept.specs.Standing.{IsAnswer}
use Rattle.tg_infer.specs.View.{raw_term}
use Rattle.tg_standing.specs.Terms.{IsTermIn}
use Rattle.tg_cert.proofs.PairLaws.{no_term, put_term}
use Rattle.tg_cert.proofs.lines.terms_in.Goals as goal

pub returns-in_default : goal.returns-in_default
returns-in_default c =
    let r = c.r-item.result in
    let at : slice_get c.args.raw.now c.loop-r.r-index ≡ Some r = slice_get_read c.args.raw.now _ _ r refl c.loop-r-test.true c.r-item.is in
    no_term c.args.th.now c.args.context.now c.types.result.now c.types.ensures c.args.raw.now c.loop-r.r-index c.requires.closed r at
    (subst (λ (o : Option Tree). IsAnswer (IsTermIn c.args.th.now c.types.result.now (raw_term r)) o) c.in_default.is c.in_ok-t.ensures)

pub loop-r-preserved : goal.loop-r-preserved
loop-r-preserved c =
    let r = c.r-item.result in
    let at : slice_get c.args.raw.now c.loop-r.r-index ≡ Some r = slice_get_read c.args.raw.now _ _ r refl c.loop-r-test.true c.r-item.is in
    put_term c.args.th.now c.args.context.now c.types.result.now c.types.ensures c.args.raw.now c.loop-r.r-index r c.loop-r.terms c.push.new.self c.in-Some.t
    c.loop-r.invariant at
    (subst (λ (o : Option Tree). IsAnswer (IsTermIn c.args.th.now c.types.result.now (raw_term r)) o) c.in-Some.is c.in_ok-t.ensures) c.in_ok-push.ensures.ok

use Rattle.std.proofs.Common.{◌≡◌, Option, Some, refl, subst}
use Rattle.std.specs.Prelude.{slice_get, option_map}
use Rattle.std.proofs.lemmas.Option.{slice_get_read}
use Rattle.tg_accept.specs.Standing.{IsAnswer, IsTypeOf}
use Rattle.tg_infer.specs.View.{raw_type}
use Rattle.tg_types.specs.declared.types.Ty.{Ty}
use Rattle.tg_types.specs.Types.{ty}
use Rattle.tg_cert.proofs.PairLaws.{no_type, put_type}
use Rattle.tg_cert.proofs.lines.types_of.Goals as goal

pub returns-in_default : goal.returns-in_default
returns-in_default c =
    let r = c.r-item.result in
    let at : slice_get c.args.raw.now c.loop-r.r-index ≡ Some r = slice_get_read c.args.raw.now _ _ r refl c.loop-r-test.true c.r-item.is in
    no_type c.args.th.now c.args.raw.now c.loop-r.r-index r at
    (subst (λ (o : Option Ty). IsAnswer (IsTypeOf c.args.th.now (raw_type r)) (option_map ty o)) c.in_default.is c.in_ok-t.ensures)

pub loop-r-preserved : goal.loop-r-preserved
loop-r-preserved c =
    let r = c.r-item.result in
    let at : slice_get c.args.raw.now c.loop-r.r-index ≡ Some r = slice_get_read c.args.raw.now _ _ r refl c.loop-r-test.true c.r-item.is in
    put_type c.args.th.now c.args.raw.now c.loop-r.r-index r c.loop-r.types c.push.new.self c.in-Some.t c.loop-r.invariant at
    (subst (λ (o : Option Ty). IsAnswer (IsTypeOf c.args.th.now (raw_type r)) (option_map ty o)) c.in-Some.is c.in_ok-t.ensures) c.in_ok-push.ensures.ok

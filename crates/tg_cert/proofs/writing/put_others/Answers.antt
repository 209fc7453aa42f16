use Rattle.std.proofs.Common.{◌≡◌, Some, refl}
use Rattle.std.specs.Prelude.{slice_get}
use Rattle.std.proofs.lemmas.Option.{slice_get_read}
use Rattle.tg_render.specs.Render.{written}
use Rattle.tg_cert.proofs.WritingLaws.{others, type_next}
use Rattle.tg_cert.proofs.writing.put_others.Goals as goal

pub loop-t-preserved : goal.loop-t-preserved
loop-t-preserved c =
    let t = c.t-item.result in
    let at : slice_get c.args.types.now c.loop-t.t-index ≡ Some t = slice_get_read c.args.types.now _ _ t refl c.loop-t-test.true c.t-item.is in
    type_next c.args.th.now c.loop-t.out.items c.put_token.new.out.items c.put_ty.new.out.items
    (written c.args.out.now.items (others c.args.th.now c.args.types.now)) c.args.types.now c.loop-t.t-index t at c.loop-t.invariant
    c.in_ok-put_token.ensures c.in_ok-put_ty.ensures

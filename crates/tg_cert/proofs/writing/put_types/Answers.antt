use Rattle.std.proofs.Common.{rules, ◌≡◌, ◌∷◌}
use Rattle.std.proofs.lemmas.Result.{on_ok_weaker}
use Rattle.tg_cert.proofs.WritingLaws.{some_written}
use Rattle.tg_cert.proofs.writing.put_types.Goals as goal

pub returns : goal.returns
returns c =
    let e : c.args.types.now ≡ c.in-Some.first.now ∷ c.in-Some.others.now = search rules in
    on_ok_weaker _ (some_written c.args.th.now c.args.out.now.items c.put_ty.new.out.items c.put_others.new.out.items c.args.types.now c.in-Some.others.now
    c.in-Some.first.now e c.in_ok-put_ty.ensures) c.put_others.ensures

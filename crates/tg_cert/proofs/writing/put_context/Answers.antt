use Rattle.std.proofs.lemmas.Result.{on_ok_weaker}
use Rattle.tg_cert.proofs.WritingLaws.{braced}
use Rattle.tg_cert.proofs.writing.put_context.Goals as goal

pub returns : goal.returns
returns c =
    on_ok_weaker _ (braced c.args.th.now c.args.out.now.items c.put_token.new.out.items c.put_types.new.out.items c.put_token-2.new.out.items c.types.result.now
    c.args.vars.now c.types.ensures c.in_ok-put_token.ensures c.in_ok-put_types.ensures) c.put_token-2.ensures

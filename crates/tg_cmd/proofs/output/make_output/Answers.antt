use Rattle.std.proofs.Common.{subst}
use Rattle.tg_io.specs.declared.whole.ReadErr.{ReadErr}
use Rattle.tg_io.specs.Whole.{TakesFront}
use Rattle.tg_cmd.specs.Causes.{longest}
use Rattle.tg_cmd.proofs.Sources.{read_whole, read_front, on_ok}
use Rattle.tg_cmd.proofs.output.make_output.Goals as goal

pub returns-in-Ok-clause-read : goal.returns-in-Ok-clause-read
returns-in-Ok-clause-read g c = on_ok c.or_memory.result
    (read_whole (g.S.Source.left c.args.source.now) (g.S.Source.left c.read_all.new.src) c.in-Ok.bytes.items c.in-Ok.ensures.whole c.in-Ok.ensures.end
    c.in-Ok.ensures.within)

pub returns-in-Err-TooLong-clause-read : goal.returns-in-Err-TooLong-clause-read
returns-in-Err-TooLong-clause-read g c = on_ok c.or_memory-in-Err-TooLong.result
    (let old = g.S.Source.left c.args.source.now in
    let new = g.S.Source.left c.read_all.new.src in
    read_front old new (subst (λ (e : ReadErr). TakesFront e longest old new) c.in-Err-TooLong.field-0-is c.in-Err-TooLong.ensures.front))

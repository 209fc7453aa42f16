use Rattle.tg_kernel.proofs.AskedLaws.{typed_told}
use Rattle.tg_kernel.proofs.needs.is_term.Goals as goal

pub returns : goal.returns
returns c =
    typed_told c.args.th.now c.in_ok-typed.typed c.types.result.now c.args.vars.now c.args.t.now c.args.at.now c.types.ensures c.in_ok-typed.ensures

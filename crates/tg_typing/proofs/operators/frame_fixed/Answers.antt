use Rattle.tg_typing.proofs.FrameLaws.{fixed_framed, if_ok}
use Rattle.tg_typing.proofs.operators.frame_fixed.Goals as goal

pub returns : goal.returns
returns c =
    if_ok c.close.result (λ found closes.
    fixed_framed c.args.table.now c.push_kind.new.table c.push_kind-2.new.table c.close.new.table c.in_ok-es.es c.args.expected c.in_ok-operand.operand
    c.in_ok-top.top c.args.types found c.in_ok-operand.ensures c.in_ok-top.ensures c.in_ok-es.ensures c.requires.expected closes)
    c.close.ensures

use Rattle.tg_typing.proofs.FrameLaws.{equality_framed, if_ok}
use Rattle.tg_typing.proofs.operators.frame_equality.Goals as goal

pub returns : goal.returns
returns c =
    if_ok c.close.result (λ found closes.
    equality_framed c.args.table.now c.push.new.self c.push-2.new.self c.close.new.table c.in_ok-es.es c.args.expected c.in_ok-operand.operand
    c.in_ok-top.top found c.in_ok-operand.ensures.table c.in_ok-operand.ensures.ok c.in_ok-operand.ensures.place c.in_ok-top.ensures.table
    c.in_ok-top.ensures.ok c.in_ok-top.ensures.place c.in_ok-es.ensures c.requires.expected closes)
    c.close.ensures

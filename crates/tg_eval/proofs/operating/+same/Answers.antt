use Rattle.tg_eval.proofs.OperatorLaws.{other_lengths}
use Rattle.tg_eval.proofs.operating.+same.Goals as goal

pub same_all-returns-then-vs-ws : goal.same_all-returns-then-vs-ws
same_all-returns-then-vs-ws t c = other_lengths c.args.vs.now c.args.ws.now c.if-vs-ws.true

use Rattle.tg_term.proofs.ValueLists.{other_lengths}
use Rattle.tg_term.proofs.valued.+same.Goals as goal

pub same_values-returns-then-vs-ws : goal.same_values-returns-then-vs-ws
same_values-returns-then-vs-ws t c = other_lengths c.args.vs.now c.args.ws.now c.if-vs-ws.true

use Rattle.tg_typing.specs.Nodes.{AreOpened}
use Rattle.tg_typing.proofs.opening.open_nodes.Given as goal

abbrev pub invariant-loop : goal.invariant-loop
invariant-loop l = AreOpened l.initial.table l.table l.ks l.counter

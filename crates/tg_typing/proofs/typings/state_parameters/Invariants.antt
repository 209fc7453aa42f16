use Rattle.tg_model.specs.Types.{tys}
use Rattle.tg_model.specs.Accepted.{parameters_from}
use Rattle.tg_typing.specs.Nodes.{AllStand}
use Rattle.tg_typing.proofs.typings.state_parameters.Given as goal

abbrev pub invariant-loop-n : goal.invariant-loop-n
invariant-loop-n l = AllStand l.initial.table (tys (parameters_from 1 l.n)) l.table l.ks

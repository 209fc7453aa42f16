use Rattle.std.proofs.Common.{take, drop}
use Rattle.tg_theory.specs.Taking.{constructor_names}
use Rattle.tg_theory.proofs.Taken.{HasTaken}
use Rattle.tg_theory.proofs.adding.take_constructors.Given as goal

abbrev pub invariant-loop-con : goal.invariant-loop-con
invariant-loop-con l = HasTaken l.initial.names (constructor_names (take l.con-index l.cons)) (constructor_names (drop l.con-index l.cons)) l.names

use Rattle.std.proofs.Common.{true, take}
use Rattle.tg_equations.specs.Checked.{Takes}
use Rattle.tg_equations.proofs.names.take_all.Given as goal

abbrev pub invariant-loop-x : goal.invariant-loop-x
invariant-loop-x l = Takes l.initial.seen.keys l.seen.keys (take l.x-index l.names) true

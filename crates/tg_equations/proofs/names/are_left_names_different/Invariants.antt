use Rattle.std.proofs.Common.{true, [], take}
use Rattle.tg_accept.specs.Equations.{left_names}
use Rattle.tg_equations.specs.Checked.{Takes}
use Rattle.tg_equations.specs.View.{patterns}
use Rattle.tg_equations.proofs.names.are_left_names_different.Given as goal

abbrev pub invariant-loop-p : goal.invariant-loop-p
invariant-loop-p l = Takes [] l.seen.keys (left_names (take l.p-index (patterns l.ps))) true

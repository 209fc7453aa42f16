use Rattle.std.proofs.Common.{◌≡◌, ◌+◌, drop}
use Rattle.tg_accept.specs.Equations.{count_variables}
use Rattle.tg_equations.specs.View.{patterns}
use Rattle.tg_infer.proofs.lefts.count_variables.Given as goal

abbrev pub invariant-loop-p : goal.invariant-loop-p
invariant-loop-p l = l.count + count_variables (patterns (drop l.p-index l.ps)) ≡ count_variables (patterns l.ps)

use Rattle.std.proofs.Common.{◌≡◌}
use Rattle.tg_model.specs.Accepted.{variables_from}
use Rattle.tg_kernel.proofs.cases.variables_from.Given as goal

abbrev pub invariant-loop-i : goal.invariant-loop-i
invariant-loop-i l = l.ts ≡ variables_from l.first l.i

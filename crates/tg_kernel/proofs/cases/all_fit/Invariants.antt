use Rattle.std.proofs.Common.{◌≡◌, ◌+◌, drop}
use Rattle.tg_kernel.proofs.CaseLaws.{Fit}
use Rattle.tg_kernel.proofs.cases.all_fit.Given as goal

-- what is left decides
abbrev pub invariant-loop-i : goal.invariant-loop-i
invariant-loop-i l = Fit l.vars l.n l.goal (l.first + l.i) (drop l.i l.cases) (drop l.i l.ps) ≡ Fit l.vars l.n l.goal l.first l.cases l.ps

use Rattle.std.proofs.Common.{◌≡◌, ◌+◌, [], drop}
use Rattle.tg_kernel.proofs.CaseLaws.{All}
use Rattle.tg_kernel.proofs.cases.collected.Given as goal

-- with those of what is left it is the whole
abbrev pub invariant-loop-i : goal.invariant-loop-i
invariant-loop-i l = All l.vars l.n l.all (l.first + l.i) (drop l.i l.cases) (drop l.i l.ps) ≡ All l.vars l.n [] l.first l.cases l.ps

use Rattle.std.proofs.Common.{◌≡◌, drop}
use Rattle.tg_equations.specs.Matched.{first_head}
use Rattle.tg_equations.specs.View.{patterns}
use Rattle.tg_equations.proofs.matching.first_head.Given as goal

-- what is left decides
abbrev pub invariant-loop-p : goal.invariant-loop-p
invariant-loop-p l = first_head (patterns (drop l.p-index l.ps)) ≡ first_head (patterns l.ps)

use Rattle.std.proofs.Common.{◌≡◌, drop}
use Rattle.tg_types.specs.Types.{types}
use Rattle.tg_theory.specs.Typed.{are_closed}
use Rattle.tg_kernel.proofs.needs.are_closed.Given as goal

-- what is left decides
abbrev pub invariant-loop-t : goal.invariant-loop-t
invariant-loop-t l = are_closed l.th (types (drop l.t-index l.ts)) ≡ are_closed l.th (types l.ts)

use Rattle.std.proofs.Common.{◌≡◌, drop}
use Rattle.tg_accept.specs.Faults.{any_holds}
use Rattle.tg_types.specs.Types.{types}
use Rattle.tg_theory.proofs.types.+holding.Given as goal

-- what is left decides
abbrev pub invariant-any_holds-loop-t : goal.invariant-any_holds-loop-t
invariant-any_holds-loop-t l = any_holds l.d (types (drop l.t-index l.ts)) ≡ any_holds l.d (types l.ts)

use Rattle.std.proofs.Common.{◌≡◌, drop}
use Rattle.tg_accept.specs.Faults.{any_has_parameter}
use Rattle.tg_types.specs.Types.{types}
use Rattle.tg_theory.proofs.types.+parameters.Given as goal

-- what is left decides
abbrev pub invariant-any_has_parameter-loop-t : goal.invariant-any_has_parameter-loop-t
invariant-any_has_parameter-loop-t l = any_has_parameter (types (drop l.t-index l.ts)) ≡ any_has_parameter (types l.ts)

use Rattle.std.proofs.Common.{◌≡◌, map, drop}
use Rattle.tg_accept.specs.Faults.{is_base}
use Rattle.tg_types.specs.Types.{ty}
use Rattle.tg_theory.proofs.types.is_base.Given as goal

-- what is left decides
abbrev pub invariant-loop-t : goal.invariant-loop-t
invariant-loop-t l = is_base l.d (map ty (drop l.t-index l.ts)) ≡ is_base l.d (map ty l.ts)

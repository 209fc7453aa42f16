use Rattle.std.proofs.Common.{◌≡◌, map, drop}
use Rattle.std.specs.List.{list_any}
use Rattle.tg_accept.specs.Faults.{has_parameter}
use Rattle.tg_types.specs.Types.{ty}
use Rattle.tg_theory.proofs.shapes.some_parameter.Given as goal

-- what is left decides
abbrev pub invariant-loop-t : goal.invariant-loop-t
invariant-loop-t l = list_any has_parameter (map ty (drop l.t-index l.ts)) ≡ list_any has_parameter (map ty l.ts)

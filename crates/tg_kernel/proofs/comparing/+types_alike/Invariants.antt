use Rattle.std.proofs.Common.{◌≡◌, drop}
use Rattle.tg_types.specs.Types.{types}
use Rattle.tg_kernel.specs.Comparing.{all_types_alike}
use Rattle.tg_kernel.proofs.comparing.+types_alike.Given as goal

-- what is left decides
abbrev pub invariant-are_types_alike-loop-i : goal.invariant-are_types_alike-loop-i
invariant-are_types_alike-loop-i l = all_types_alike (types (drop l.i l.ts)) (types (drop l.i l.us)) ≡ all_types_alike (types l.ts) (types l.us)

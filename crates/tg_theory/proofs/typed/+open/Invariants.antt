use Rattle.std.proofs.Common.{◌≡◌, drop}
use Rattle.tg_types.specs.Types.{types}
use Rattle.tg_theory.specs.Typed.{are_declared}
use Rattle.tg_theory.proofs.typed.+open.Given as goal

-- what is left decides
abbrev pub invariant-are_declared-loop-t : goal.invariant-are_declared-loop-t
invariant-are_declared-loop-t l = are_declared (types (drop l.t-index l.ts)) ≡ are_declared (types l.ts)

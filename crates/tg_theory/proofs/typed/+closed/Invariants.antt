use Rattle.std.proofs.Common.{◌≡◌, [], drop}
use Rattle.tg_accept.specs.Declared.{theory}
use Rattle.tg_types.specs.Types.{types}
use Rattle.tg_theory.specs.Typed.{are_closed}
use Rattle.tg_theory.proofs.typed.+closed.Given as goal

-- what is left decides
abbrev pub invariant-are_closed-loop-t : goal.invariant-are_closed-loop-t
invariant-are_closed-loop-t l = are_closed (theory [] l.declared) (types (drop l.t-index l.ts)) ≡ are_closed (theory [] l.declared) (types l.ts)

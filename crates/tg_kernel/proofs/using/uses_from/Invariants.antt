use Rattle.std.proofs.Common.{◌≡◌, ◌+◌, drop, map}
use Rattle.tg_types.specs.Types.{ty}
use Rattle.tg_calculus.specs.Sequent.{uses_from}
use Rattle.tg_kernel.proofs.using.uses_from.Given as goal

-- what is left decides
abbrev pub invariant-loop-i : goal.invariant-loop-i
invariant-loop-i l = uses_from (l.first + l.i) (map ty (drop l.i l.new)) l.f ≡ uses_from l.first (map ty l.new) l.f

use Rattle.std.proofs.Common.{◌≡◌, drop, map}
use Rattle.tg_types.specs.Types.{ty}
use Rattle.tg_calculus.specs.Draft.{same_context}
use Rattle.tg_kernel.proofs.comparing.same_types.Given as goal

-- what is left decides
abbrev pub invariant-loop-i : goal.invariant-loop-i
invariant-loop-i l = same_context (map ty (drop l.i l.ts)) (map ty (drop l.i l.us)) ≡ same_context (map ty l.ts) (map ty l.us)

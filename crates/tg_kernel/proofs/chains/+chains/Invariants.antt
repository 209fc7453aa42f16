use Rattle.std.proofs.Common.{◌≡◌, ◌+◌, ◌*◌, drop, map}
use Rattle.tg_model.specs.Tree.{trees}
use Rattle.tg_types.specs.Types.{ty}
use Rattle.tg_term.specs.Measures.{height, heights}
use Rattle.tg_calculus.specs.Chains.{some_has_chain}
use Rattle.tg_kernel.proofs.chains.+chains.Given as goal

abbrev pub decreases-has_chain : goal.decreases-has_chain
decreases-has_chain l = 2 * height l.t.now + 1

abbrev pub decreases-some_has_chain : goal.decreases-some_has_chain
decreases-some_has_chain l = 2 * heights (trees l.ts.now)

-- what is left decides
abbrev pub invariant-some_has_chain-loop-i : goal.invariant-some_has_chain-loop-i
invariant-some_has_chain-loop-i l =
    some_has_chain l.th (trees (drop l.i l.ts)) l.count (map ty (drop l.i l.types)) ≡ some_has_chain l.th (trees l.ts) l.count (map ty l.types)

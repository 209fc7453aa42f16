use Rattle.std.proofs.Common.{◌+◌, length, [], ◌∷◌}
use Rattle.tg_shared_types.specs.Pairs.{Carries, weights}
use Rattle.tg_shared_types.proofs.uniting.unite.Given as goal

abbrev pub invariant-loop-a : goal.invariant-loop-a
invariant-loop-a l = Carries l.fn.nodes ((l.left, l.right) ∷ []) l.nodes l.work.items

abbrev pub decreases-loop-a : goal.decreases-loop-a
decreases-loop-a l = weights l.nodes + length l.work.items

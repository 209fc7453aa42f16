use Rattle.std.proofs.Common.{◌≡◌, ◌++◌, ◌∷◌, [], length}
use Rattle.tg_hyps.specs.Hypotheses.{some_of}
use Rattle.tg_hyps.proofs.connectives.any_of.Given as goal

-- what is made of the last terms is as one term behind the others
abbrev pub invariant-loop-t : goal.invariant-loop-t
invariant-loop-t l = some_of (l.left ++ l.any ∷ []) ≡ some_of l.fn.ts

abbrev pub decreases-loop-t : goal.decreases-loop-t
decreases-loop-t l = length l.left

use Rattle.std.proofs.Common.{◌≡◌, drop}
use Rattle.tg_model.specs.Tree.{trees}
use Rattle.tg_kernel.specs.Comparing.{all_alike}
use Rattle.tg_kernel.proofs.comparing.same_terms.Given as goal

-- what is left decides
abbrev pub invariant-loop-i : goal.invariant-loop-i
invariant-loop-i l = all_alike (trees (drop l.i l.ts)) (trees (drop l.i l.us)) ≡ all_alike (trees l.ts) (trees l.us)

use Rattle.std.proofs.Common.{◌≡◌, drop}
use Rattle.tg_model.specs.Tree.{trees}
use Rattle.tg_model.specs.Uses.{use_any}
use Rattle.tg_kernel.proofs.using.any_uses.Given as goal

-- what is left decides
abbrev pub invariant-loop-t : goal.invariant-loop-t
invariant-loop-t l = use_any l.number (trees (drop l.t-index l.ts)) ≡ use_any l.number (trees l.ts)

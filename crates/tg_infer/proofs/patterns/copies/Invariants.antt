use Rattle.std.proofs.Common.{◌≡◌, take}
use Rattle.tg_infer.proofs.patterns.copies.Given as goal

abbrev pub invariant-loop-x : goal.invariant-loop-x
invariant-loop-x l = l.names ≡ take l.x-index l.xs

use Rattle.std.proofs.Common.{◌≡◌, take}
use Rattle.tg_kernel.proofs.hypotheses.shared_formulas.Given as goal

abbrev pub invariant-loop-f : goal.invariant-loop-f
invariant-loop-f l = l.out ≡ take l.f-index l.fs

use Rattle.std.proofs.Common.{◌≡◌, map, take}
use Rattle.tg_solver.specs.Numbers.{as_value}
use Rattle.tg_solver.proofs.data.all_zero.Given as goal

abbrev pub invariant-loop-truth : goal.invariant-loop-truth
invariant-loop-truth l = l.out.items ≡ map (λ truth. as_value truth 0) (take l.truth-index l.truths)

use Rattle.std.proofs.Common.{◌≡◌, map, take}
use Rattle.tg_types.specs.Types.{ty}
use Rattle.tg_solver.specs.Numbers.{is_truth}
use Rattle.tg_solver.proofs.data.truths.Given as goal

abbrev pub invariant-loop-t : goal.invariant-loop-t
invariant-loop-t l = l.out.items ≡ map (λ t. is_truth (ty t)) (take l.t-index l.vars)

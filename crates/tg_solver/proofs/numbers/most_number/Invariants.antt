use Rattle.std.proofs.Common.{◌+◌, ◌-◌, ◌^◌, ◌≤◌}
use Rattle.tg_solver.proofs.numbers.most_number.Given as goal

abbrev pub invariant-loop-most : goal.invariant-loop-most
invariant-loop-most l = record {
  within : l.most ≤ l.bound;
  few : (l.most + 1) ^ l.count ≤ 20000;
}

abbrev pub decreases-loop-most : goal.decreases-loop-most
decreases-loop-most l = l.bound - l.most

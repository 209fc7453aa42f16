use Rattle.std.proofs.Common.{◌≡◌, ◌^◌, ◌≤◌}
use Rattle.tg_solver.proofs.numbers.fits.Given as goal

abbrev pub invariant-loop : goal.invariant-loop
invariant-loop l = record {
  power : l.product ≡ l.choices ^ l.counter;
  few : l.product ≤ 20000;
}

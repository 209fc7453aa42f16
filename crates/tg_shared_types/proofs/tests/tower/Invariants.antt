use Rattle.std.proofs.Common.{◌<◌, ◌≤◌, length}
use Rattle.tg_shared_types.proofs.tests.tower.Given as goal

abbrev pub invariant-loop : goal.invariant-loop
invariant-loop l = record {
  inside : l.top < length l.table;
  longer : length l.initial.table ≤ length l.table;
}

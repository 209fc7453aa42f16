use Rattle.std.proofs.Common.{◌≡◌, ◌<◌, drop, length, Some}
use Rattle.tg_rows.specs.Rows.{equal_parts}
use Rattle.tg_schema.proofs.building.equations.Given as goal

abbrev pub invariant-loop-at : goal.invariant-loop-at
invariant-loop-at l = record {
  joined : Some l.joined ≡ equal_parts (drop l.at l.ts) (drop l.at l.us);
  within : l.at < length l.ts;
  same : length l.ts ≡ length l.us;
}

abbrev pub decreases-loop-at : goal.decreases-loop-at
decreases-loop-at l = l.at

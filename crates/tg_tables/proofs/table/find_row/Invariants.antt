use Rattle.std.proofs.Common.{◌-◌}
use Rattle.tg_tables.specs.Rows.{names, entries_of}
use Rattle.tg_tables.proofs.Places.{Within}
use Rattle.tg_tables.proofs.table.find_row.Given as goal

abbrev pub invariant-loop-low : goal.invariant-loop-low
invariant-loop-low l = Within (names (entries_of l.rows)) l.name l.low l.high

abbrev pub decreases-loop-low : goal.decreases-loop-low
decreases-loop-low l = l.high - l.low

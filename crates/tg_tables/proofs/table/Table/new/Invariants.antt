use Rattle.std.specs.List.{AllAdjacentBelow}
use Rattle.tg_tables.specs.Rows.{names, entries_of, Below}
use Rattle.tg_tables.proofs.table.Table.new.Given as goal

-- the names before rise
abbrev pub invariant-loop-i : goal.invariant-loop-i
invariant-loop-i g l = AllAdjacentBelow Below (names (entries_of l.rows)) l.i

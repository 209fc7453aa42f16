use Rattle.std.proofs.Common.{◌≡◌, take, map}
use Rattle.tg_clause.specs.Answers.{literals}
use Rattle.tg_clause.specs.Numbers.{rows_of, row_items}
use Rattle.tg_clause.proofs.minimising.rows_of.Given as goal

abbrev pub invariant-loop-c : goal.invariant-loop-c
invariant-loop-c l = map row_items l.rows.items ≡ rows_of l.table (map literals (take l.c-index l.cs))

use Rattle.std.proofs.Common.{◌≡◌, take}
use Rattle.tg_clause.specs.Numbers.{row_of}
use Rattle.tg_clause.proofs.minimising.row_of.Given as goal

abbrev pub invariant-loop-m : goal.invariant-loop-m
invariant-loop-m l = l.row.items ≡ row_of l.table (take l.m-index l.c)

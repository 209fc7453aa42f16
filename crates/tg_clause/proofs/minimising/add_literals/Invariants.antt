use Rattle.std.proofs.Common.{take}
use Rattle.tg_clause.specs.Numbers.{HasAdded}
use Rattle.tg_clause.proofs.minimising.add_literals.Given as goal

abbrev pub invariant-loop-m : goal.invariant-loop-m
invariant-loop-m l = HasAdded l.initial.table.items l.table.items (take l.m-index l.c)

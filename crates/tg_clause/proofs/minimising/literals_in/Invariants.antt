use Rattle.std.proofs.Common.{take, map}
use Rattle.tg_clause.specs.Answers.{literals}
use Rattle.tg_clause.specs.Numbers.{AreAllKnown}
use Rattle.tg_clause.proofs.minimising.literals_in.Given as goal

abbrev pub invariant-loop-c : goal.invariant-loop-c
invariant-loop-c l = AreAllKnown l.table.items (map literals (take l.c-index l.cs))

use Rattle.std.proofs.Common.{◌≡◌, take}
use Rattle.tg_clause.specs.Classes.{constraints_of}
use Rattle.tg_clause.proofs.classing.constraints_of.Given as goal

abbrev pub invariant-loop-l : goal.invariant-loop-l
invariant-loop-l l = l.ts ≡ constraints_of (take l.l-index l.c)

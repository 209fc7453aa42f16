use Rattle.std.proofs.Common.{◌≡◌, ◌++◌, take}
use Rattle.tg_clause.proofs.joining.append.Given as goal

abbrev pub invariant-loop-m : goal.invariant-loop-m
invariant-loop-m l = l.all ≡ l.initial.all ++ take l.m-index l.ls

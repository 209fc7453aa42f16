use Rattle.std.proofs.Common.{◌≡◌, ◌++◌, take, not}
use Rattle.std.specs.List.{filter}
use Rattle.tg_clause.specs.Clauses.{has}
use Rattle.tg_clause.proofs.joining.append_new.Given as goal

abbrev pub invariant-loop-m : goal.invariant-loop-m
invariant-loop-m l = l.all ≡ l.initial.all ++ filter (λ x. not (has l.c x)) (take l.m-index l.ls)

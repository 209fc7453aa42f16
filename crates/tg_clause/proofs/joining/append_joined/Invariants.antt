use Rattle.std.proofs.Common.{◌≡◌, ◌++◌, take, map}
use Rattle.tg_clause.specs.Answers.{literals}
use Rattle.tg_clause.specs.Clauses.{joined}
use Rattle.tg_clause.proofs.joining.append_joined.Given as goal

abbrev pub invariant-loop-d : goal.invariant-loop-d
invariant-loop-d l = map literals l.all.items ≡ map literals l.initial.all.items ++ map (joined (literals l.c)) (map literals (take l.d-index l.ds))

use Rattle.std.proofs.Common.{◌≡◌, take, map}
use Rattle.tg_clause.specs.Answers.{literals}
use Rattle.tg_clause.specs.Clauses.{product}
use Rattle.tg_clause.proofs.joining.product.Given as goal

abbrev pub invariant-loop-c : goal.invariant-loop-c
invariant-loop-c l = map literals l.all.items ≡ product (map literals (take l.c-index l.cs)) (map literals l.ds)

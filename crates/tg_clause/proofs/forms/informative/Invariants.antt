use Rattle.std.proofs.Common.{◌≡◌, take, map, not}
use Rattle.std.specs.List.{filter}
use Rattle.tg_clause.specs.Answers.{literals}
use Rattle.tg_clause.specs.Clauses.{is_tautology}
use Rattle.tg_clause.proofs.forms.informative.Given as goal

abbrev pub invariant-loop-c : goal.invariant-loop-c
invariant-loop-c l = map literals l.kept.items ≡ filter (λ c. not (is_tautology c)) (map literals (take l.c-index l.cs))

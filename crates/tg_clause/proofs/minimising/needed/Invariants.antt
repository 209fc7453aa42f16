use Rattle.std.proofs.Common.{◌≡◌, ◌++◌, map, take, drop}
use Rattle.tg_clause.specs.Answers.{literals}
use Rattle.tg_clause.specs.Minimal.{minimal_from, minimised}
use Rattle.tg_clause.proofs.minimising.needed.Given as goal

abbrev pub invariant-loop-at : goal.invariant-loop-at
invariant-loop-at l =
    map literals l.kept.items ++ minimal_from (map literals l.list) (take l.at (map literals l.list)) (drop l.at (map literals l.list)) ≡ minimised (map literals l.list)

use Rattle.std.proofs.Common.{◌≡◌, ◌+◌, drop}
use Rattle.tg_clause.specs.Numbers.{first_at}
use Rattle.tg_clause.proofs.minimising.first_at.Given as goal

abbrev pub invariant-loop-at : goal.invariant-loop-at
invariant-loop-at l = first_at l.table l.l ≡ l.at + first_at (drop l.at l.table) l.l

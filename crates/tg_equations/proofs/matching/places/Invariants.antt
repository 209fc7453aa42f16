use Rattle.std.proofs.Common.{◌≡◌, ◌+◌, ◌++◌, drop}
use Rattle.tg_accept.specs.Functions.{places, places_from}
use Rattle.tg_equations.specs.View.{patterns}
use Rattle.tg_equations.proofs.matching.places.Given as goal

-- what stands, and what is left, are all the places
abbrev pub invariant-loop-at : goal.invariant-loop-at
invariant-loop-at l = l.all ++ places_from (l.at + 1) (patterns (drop l.at l.ps)) ≡ places (patterns l.ps)

use Rattle.std.proofs.Common.{◌≡◌, take}
use Rattle.tg_accept.specs.Equations.{Equation}
use Rattle.tg_accept.specs.Functions.{is_for}
use Rattle.tg_accept.specs.Resolved.{Head}
use Rattle.tg_equations.specs.Places.{held, placed_from}
use Rattle.tg_equations.specs.View.{equations}
use Rattle.tg_equations.proofs.matching.equation_places.Given as goal

abbrev pub invariant-loop-at : goal.invariant-loop-at
invariant-loop-at l = (h : Head) → held l.places h ≡ placed_from (λ (e : Equation). is_for h e.patterns) 0 (take l.at (equations l.es))

use Rattle.std.proofs.Common.{◌≡◌, ◌∷◌, [], drop}
use Rattle.tg_accept.specs.Equations.{Equation}
use Rattle.tg_accept.specs.Functions.{places}
use Rattle.tg_equations.specs.View.{equations}
use Rattle.tg_equations.proofs.EachLaws.{Left}
use Rattle.tg_equations.proofs.matching.are_at.Given as goal

abbrev pub invariant-loop-e : goal.invariant-loop-e
invariant-loop-e l = Left (λ (e : Equation). places e.patterns ≡ l.place ∷ []) (equations l.es) (equations (drop l.e-index l.es))

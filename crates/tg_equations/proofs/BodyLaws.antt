-- The cases of a function, one after another.
use Rattle.std.proofs.Common.{ℕ, ◌≡◌, List, Option, ◌∙◌, ap}
use Rattle.tg_model.specs.Tree.{Tree}
use Rattle.tg_model.specs.Theory.{Theory}
use Rattle.tg_accept.specs.Core.{core}
use Rattle.tg_accept.specs.Equations.{Equation}
use Rattle.tg_accept.specs.Functions.{side_for}
use Rattle.tg_accept.specs.Resolved.{Head}
use Rattle.tg_equations.specs.declared.places.Place.{Place}
use Rattle.tg_equations.specs.declared.places.Places.{Places}
use Rattle.tg_equations.specs.Places.{held}
use Rattle.tg_equations.specs.Matched.{AreEquationPlaces, side_at}
use Rattle.tg_equations.proofs.MatchedLaws.{side_first}

pub next_side : (th : Theory) (own : ℕ) (p : Places) (es : List Equation) (h : Head) (at : Option Place) (t : Tree) → AreEquationPlaces p es → at ≡ held p h
    → t ≡ core th own (side_at es at) → t ≡ core th own (side_for es h)
next_side th own p es h at t are e f = f ∙ ap (λ o. core th own (side_at es o)) e ∙ ap (core th own) (side_first p es h are)

-- What equations match, and which equation is for a constructor.
use Rattle.std.specs.Prelude.{ℕ, ◌≡◌, List, [], ◌∷◌, Option, Some, None, option_and_then, slice_get}
use Rattle.std.specs.Option.{option_map_or}
use Rattle.tg_model.specs.Types.{Ty}
use Rattle.tg_model.specs.Theory.{datatype_of, numbered}
use Rattle.tg_accept.specs.Equations.{Pattern, variable, matched, Equation}
use Rattle.tg_accept.specs.Functions.{is_for}
use Rattle.tg_accept.specs.Resolved.{Head, Resolved, truth}
use Rattle.std.specs.Prelude.{false}
use Rattle.tg_equations.specs.declared.places.Place.{Place}
use Rattle.tg_equations.specs.declared.places.Places.{Places}
use Rattle.tg_equations.specs.Places.{placed_from, held}

-- the datatype of the argument of a number, 0 for nat
abbrev pub datatype_in : List Ty → ℕ → ℕ
datatype_in ts place = option_map_or datatype_of (numbered ts place) 0

-- what the first constructor pattern is for
abbrev pub first_head : List Pattern → Option Head
first_head [] = None
first_head (variable x ∷ ps) = first_head ps
first_head (matched h xs ∷ ps) = Some h

-- each head has the place of its first equation
abbrev pub AreEquationPlaces : Places → List Equation → Type 0
AreEquationPlaces p es = (h : Head) → held p h ≡ placed_from (λ (e : Equation). is_for h e.patterns) 0 es

-- the right side of the equation at a place, False where there is none
abbrev pub side_at : List Equation → Option Place → Resolved
side_at es at = option_map_or (λ (e : Equation). e.body) (option_and_then (λ (p : Place). slice_get es p.first) at) (truth false)

-- What is asked of a function's equations together.
use Rattle.std.specs.Prelude.{◌≡◌, List, [], ◌∷◌, length}
use Rattle.tg_model.specs.Theory.{Function}
use Rattle.tg_accept.specs.Checks.{Each}
use Rattle.tg_accept.specs.Core.{heads_of}
use Rattle.tg_accept.specs.Declared.{Declared, theory}
use Rattle.tg_accept.specs.Equations.{Equation}
use Rattle.tg_accept.specs.Functions.{Meant, places, place_in, count_for, datatype_at_place}

-- a function's name and types with its equations
abbrev pub meant : Function → List Equation → Meant
meant x es = record { signature = x; equations = es }

-- each constructor of the type that is matched, in one place by all equations, has exactly one equation
pub record Covers (D : Declared) (x : Function) (es : List Equation) : Type 0 where
  pub one_place : Each (λ (e : Equation). places e.patterns ≡ place_in es ∷ []) es
  pub covered : Each (λ h. count_for h es ≡ 1) (heads_of (theory [] D) (datatype_at_place x (place_in es)))

-- one equation without a constructor pattern
pub record IsOnePlain (es : List Equation) : Type 0 where
  pub one_equation : length es ≡ 1
  pub no_pattern : Each (λ (e : Equation). places e.patterns ≡ []) es

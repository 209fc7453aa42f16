-- What a builder keeps.
use Rattle.std.specs.Prelude.{ℕ, List}
use Rattle.tg_accept.specs.Declared.{Declared}
use Rattle.tg_accept.specs.Kept.{names_of_types, names_of_values}
use Rattle.tg_theory.specs.Names.{HaveSameNames}
use Rattle.tg_theory.specs.Right.{IsRight}

-- All that is declared was accepted, and the names that are taken, of types and of values, are those that are declared.
pub record IsBuilt (ts vs : List (List ℕ)) (D : Declared) : Type 0 where
  pub right : IsRight D
  pub types : HaveSameNames ts (names_of_types D)
  pub values : HaveSameNames vs (names_of_values D)

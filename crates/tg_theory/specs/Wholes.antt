-- What a theory keeps.
use Rattle.std.specs.Prelude.{ℕ, List, IsSome}
use Rattle.tg_model.specs.Theory.{Theory}
use Rattle.tg_model.specs.Accepted.{type_names, value_names}
use Rattle.tg_accept.specs.Declared.{Declared}
use Rattle.tg_theory.specs.Names.{IsName, AreNames}
use Rattle.tg_theory.specs.Right.{IsRight}

-- All that is declared was accepted, and nothing is missing.
pub record IsWhole (name : List ℕ) (D : Declared) : Type 0 where
  pub named : IsName name
  pub right : IsRight D
  pub program : IsSome D.program
  pub specification : IsSome D.specification

-- All names are words that aren't reserved.
pub record IsWritten (th : Theory) : Type 0 where
  pub name : IsName th.name
  pub types : AreNames (type_names th)
  pub values : AreNames (value_names th)

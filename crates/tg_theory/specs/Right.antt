-- What holds of declarations that were accepted.
use Rattle.tg_accept.specs.Declared.{Declared}
use Rattle.tg_accept.specs.Kept.{IsKept, names_of_types, names_of_values}
use Rattle.tg_theory.specs.Names.{AreNames}

-- Each was accepted where it was declared, and all names are words that aren't reserved.
pub record IsRight (D : Declared) : Type 0 where
  pub kept : IsKept D
  pub type_names : AreNames (names_of_types D)
  pub value_names : AreNames (names_of_values D)

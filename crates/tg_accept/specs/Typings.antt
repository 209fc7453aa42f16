-- How many typings there are: some, exactly one, or two that differ.
use Rattle.std.specs.Prelude.{◌≡◌}
use Rattle.tg_model.specs.TermTyping.{Typing}

pub record HasTyping (Is : Typing → Type 0) : Type 0 where
  pub typing : Typing
  pub is : Is typing

pub record HasOneTyping (Is : Typing → Type 0) : Type 0 where
  pub typing : Typing
  pub is : Is typing
  pub only : (d : Typing) → Is d → d ≡ typing

pub record HasTwoTypings (Is : Typing → Type 0) : Type 0 where
  pub typing : Typing
  pub other : Typing
  pub is : Is typing
  pub other_is : Is other
  pub differ : ¬ (typing ≡ other)

-- The specification's variables.
use Rattle.std.specs.Prelude.{ℕ, true, ◌≡◌, [], length, is_some}
use Rattle.tg_accept.specs.Declared.{Declared, theory}

-- there is a program, with as many inputs
pub record HasInputs (D : Declared) (count : ℕ) : Type 0 where
  pub program : is_some D.program ≡ true
  pub inputs : count ≡ length (theory [] D).program.inputs

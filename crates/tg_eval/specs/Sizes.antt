-- What a value knows of itself, and how its last handle is dropped within a bounded stack.
use Rattle.std.specs.Prelude.{ℕ, ◌+◌, max, min}
use Rattle.tg_model.specs.Value as model
use Rattle.tg_model.specs.Value.{Value, Values, number, boolean, made}

-- the most steps from a value down to a natural, a truth value or a constructor without arguments
abbrev mutual
  pub height : Value → ℕ
  height (number n) = 0
  height (boolean b) = 0
  height (made c vs) = heights vs

  -- one more than the height of the highest, and 0 of none
  pub heights : Values → ℕ
  heights model.none = 0
  heights (model.more v vs) = max (height v + 1) (heights vs)

-- a count that stops at 2^64 - 1
abbrev pub counted : ℕ → ℕ
counted n = min n 18446744073709551615

-- no value is higher
abbrev pub most_height : ℕ
most_height = 10000

-- The bound on numbers, on a value alone, and the connectives.
use Rattle.std.specs.Prelude.{Bool, true, false, nat_lt, Option, Some, None, if◌then◌else◌}
use Rattle.tg_model.specs.Tree.{Operator, conjunction, disjunction, implication}
use Rattle.tg_model.specs.Value.{Value, number}

-- the value, but for a number of 2^64 or more
abbrev pub bounded : Value → Option Value
bounded (number n) = if nat_lt n 18446744073709551616 then Some (number n) else None
bounded v = Some v

abbrev pub connects : Operator → Bool
connects conjunction = true
connects disjunction = true
connects implication = true
connects o = false

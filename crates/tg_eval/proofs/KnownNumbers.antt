-- A value whose numbers are below 2^64, and one that has another.
use Rattle.std.proofs.Common.{arith, true}
use Rattle.tg_model.specs.Value.{number, boolean, made, none, more}
use Rattle.tg_eval.specs.Numbers.{IsSmall}

all_small : IsSmall (made 3 (more (number 18446744073709551615) (more (boolean true) none)))
all_small = (omega arith, (tt, tt))

one_large : IsSmall (made 3 (more (boolean true) (more (number 18446744073709551616) none))) → ⊥
one_large h = omega (arith, h.1.0)

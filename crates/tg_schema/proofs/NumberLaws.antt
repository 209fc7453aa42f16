-- Naturals below 2^64, and the division of numbers.
use Rattle.std.proofs.Common.{ℕ, zero, suc, ◌≡◌, ◌≢◌, ◌<◌, ◌/◌, ◌%◌, Bool, true, false, Some, None, refl, ap, sym}
use Rattle.std.specs.Prelude.{nat_lt}
use Rattle.std.proofs.lemmas.Bool.{lt-ltb, ltb-true}
use Rattle.tg_model.specs.Tree.{literal}
use Rattle.tg_model.specs.Denotation.{quotient, remainder}
use Rattle.tg_rows.specs.Parts.{only_if}
use Rattle.tg_rows.specs.Rows.{small}

pub quotient_zero : (m n : ℕ) → n ≡ 0 → quotient m n ≡ 0
quotient_zero m n e = ap (quotient m) e

pub quotient_some : (m n : ℕ) → n ≢ 0 → quotient m n ≡ m / n
quotient_some m zero h = absurd (h refl)
quotient_some m (suc n) h = refl

pub remainder_zero : (m n : ℕ) → n ≡ 0 → remainder m n ≡ m
remainder_zero m n e = ap (remainder m) e

pub remainder_some : (m n : ℕ) → n ≢ 0 → remainder m n ≡ m % n
remainder_some m zero h = absurd (h refl)
remainder_some m (suc n) h = refl

pub ruleset division = (quotient_zero, quotient_some, remainder_zero, remainder_some)

pub small_is : (n : ℕ) → n < 18446744073709551616 → Some (literal n) ≡ small n
small_is n h = sym (ap (λ b. only_if b (literal n)) (lt-ltb n 18446744073709551616 h))

large_is : (n : ℕ) (b : Bool) → nat_lt n 18446744073709551616 ≡ b → ¬ (n < 18446744073709551616) → None ≡ only_if b (literal n)
large_is n true e h = absurd (h (ltb-true n 18446744073709551616 e))
large_is n false e h = refl

pub small_not : (n : ℕ) → ¬ (n < 18446744073709551616) → None ≡ small n
small_not n h = large_is n _ refl h

pub ruleset numbers = (small_is, small_not)

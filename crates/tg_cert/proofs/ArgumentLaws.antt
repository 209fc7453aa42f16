-- The rules by their numbers.
use Rattle.std.proofs.Common.{ℕ, ◌≡◌, ◌≤◌, ◌<◌, ◌⊎◌, inl, inr, false, nat_eq, None, refl, sym, subst, arith}
use Rattle.std.proofs.lemmas.Bool.Decides.{Decides-eqb}
use Rattle.tg_accept.proofs.Misnamed.{is_false}
use Rattle.tg_cert.specs.Arguments.{Arguments, rule_of}

-- no rule has a number past 26, or 0
pub no_rule : (a : Arguments) (n : ℕ) → (n ≡ 0) ⊎ (27 ≤ n) → None ≡ rule_of a n
no_rule a n (inl e) = subst (λ k. None ≡ rule_of a k) (sym e) refl
no_rule a n (inr h) =
    rw (
      other 1 (omega arith),
      other 2 (omega arith),
      other 3 (omega arith),
      other 4 (omega arith),
      other 5 (omega arith),
      other 6 (omega arith),
      other 7 (omega arith),
      other 8 (omega arith),
      other 9 (omega arith),
      other 10 (omega arith),
      other 11 (omega arith),
      other 12 (omega arith),
      other 13 (omega arith),
      other 14 (omega arith),
      other 15 (omega arith),
      other 16 (omega arith),
      other 17 (omega arith),
      other 18 (omega arith),
      other 19 (omega arith),
      other 20 (omega arith),
      other 21 (omega arith),
      other 22 (omega arith),
      other 23 (omega arith),
      other 24 (omega arith),
      other 25 (omega arith),
      other 26 (omega arith),
    ) refl
  where
    other : (j : ℕ) → j < 27 → nat_eq n j ≡ false
    other j less = (is_false (n ≡ j) (nat_eq n j) (Decides-eqb n j)).1 (λ e. absurd (omega (arith, e, less, h)))

pub ruleset ruling = (no_rule)

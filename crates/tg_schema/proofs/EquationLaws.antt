-- Equations between lists, and the number before a positive one.
use Rattle.std.proofs.Common.{ℕ, zero, suc, ◌≡◌, ◌≤◌, ◌-◌, List, [], ◌∷◌, length, Option, Some, None, refl, ap, arith, true}
use Rattle.std.specs.Prelude.{unwrap_or}
use Rattle.tg_model.specs.Tree.{Tree, truth, op, two, conjunction}
use Rattle.tg_rows.specs.Parts.{and_then}
use Rattle.tg_rows.specs.Rows.{before, equal_parts, equation}
use Rattle.tg_term.specs.View.{elements-trees}

pub equal_lengths : (ts us : List Tree) → length ts ≡ length us → ¬ (length ts ≡ 0) → Some (unwrap_or (equal_parts ts us) (truth true)) ≡ equal_parts ts us
equal_lengths [] us e h = absurd (h refl)
equal_lengths (t ∷ ts) [] e h = cc e
equal_lengths (t ∷ []) (u ∷ []) e h = refl
equal_lengths (t ∷ []) (u ∷ v ∷ us) e h = absurd (omega (arith, e))
equal_lengths (t ∷ v ∷ ts) (u ∷ []) e h = absurd (omega (arith, e))
equal_lengths (t ∷ v ∷ ts) (u ∷ w ∷ us) e h = by (equal_parts (v ∷ ts) (w ∷ us)) (equal_lengths (v ∷ ts) (w ∷ us) (omega (arith, e)) (λ k. absurd (omega (arith, k))))
  where
    by : (o : Option Tree) → Some (unwrap_or o (truth true)) ≡ o
        → Some (unwrap_or (and_then o (λ x. Some (op conjunction (two (equation t u) x)))) (truth true)) ≡ and_then o (λ x. Some (op conjunction (two (equation t u) x)))
    by None k = cc k
    by (Some x) k = refl

pub other_lengths : (ts us : List Tree) → ¬ (length ts ≡ length us) → None ≡ equal_parts ts us
other_lengths [] us h = refl
other_lengths (t ∷ []) [] h = refl
other_lengths (t ∷ v ∷ ts) [] h = refl
other_lengths (t ∷ []) (u ∷ []) h = absurd (h refl)
other_lengths (t ∷ []) (u ∷ v ∷ us) h = refl
other_lengths (t ∷ v ∷ ts) (u ∷ []) h =
    ap (λ o. and_then o (λ x. Some (op conjunction (two (equation t u) x)))) (other_lengths (v ∷ ts) [] (λ e. absurd (omega (arith, e))))
other_lengths (t ∷ v ∷ ts) (u ∷ w ∷ us) h =
    ap (λ o. and_then o (λ x. Some (op conjunction (two (equation t u) x)))) (other_lengths (v ∷ ts) (w ∷ us) (λ e. h (ap suc e)))

pub no_parts : (ts us : List Tree) → length ts ≡ 0 → None ≡ equal_parts ts us
no_parts [] us e = refl
no_parts (t ∷ ts) us e = absurd (omega (arith, e))

pub ruleset lengths = (equal_lengths, other_lengths, no_parts)

pub ruleset constructors = (elements-trees)

pub before_less : (n : ℕ) → 1 ≤ n → Some (n - 1) ≡ before n
before_less zero h = absurd (omega (arith, h))
before_less (suc n) h = ap Some (let e : suc n - 1 ≡ n = omega arith in e)

pub before_none : (n : ℕ) → ¬ (1 ≤ n) → None ≡ before n
before_none zero h = refl
before_none (suc n) h = absurd (h (omega arith))

pub ruleset numbers = (before_less, before_none)

-- Kinds of types, and how far numbers go.
use Rattle.std.proofs.Common.{ℕ, zero, suc, ◌≡◌, ◌+◌, ◌*◌, ◌^◌, ◌<◌, ◌≤◌, inl, inr, true, false, leb, refl, sym, ◌∙◌, subst, arith}
use Rattle.std.specs.Prelude.{nat_le}
use Rattle.std.proofs.lemmas.Bool.{le-leb, lt-leb, leb-true, leb-false, cases_eq}
use Rattle.std.proofs.Math.Nat.{pow-le-pow_left, pow-le-pow_right}
use Rattle.std.proofs.lemmas.Grind.{pow_more}
use Rattle.tg_model.proofs.Booleans.{if_true, if_false}
use Rattle.tg_types.specs.Types.{ty-Nat, ty-Bool, ty-Param, ty-Meta, ty-App}
use Rattle.tg_solver.specs.Numbers.{most_number}

pub ruleset kinds = (ty-Nat, ty-Bool, ty-Param, ty-Meta, ty-App)

one_to : (n : ℕ) → 1 ^ n ≡ 1
one_to zero = refl
one_to (suc n) = let e = one_to n in omega (arith, e)

pub least_fits : (count : ℕ) → 1 ^ count ≤ 20000
least_fits count = let e = one_to count in omega (arith, e)

-- a number whose assignments are few enough, while those of the next are too many or it is past the bound
pub most_ends : (count bound m : ℕ) → m ≤ bound → (m + 1) ^ count ≤ 20000 → (m < bound → 20000 < (m + 2) ^ count) → m ≡ most_number count bound
most_ends count zero m le few over = omega arith
most_ends count (suc bound) m le few over = elim (cases_eq m (suc bound)) [
  | inl e ↦ e ∙ sym (if_true (suc bound) (most_number count bound) (nat_le ((suc bound + 1) ^ count) 20000)
      (le-leb ((suc bound + 1) ^ count) 20000 (subst (λ k. (k + 1) ^ count ≤ 20000) e few)))
  | inr ne ↦
      let below : m ≤ bound = omega arith in
      let more : (m + 2) ^ count ≤ (suc bound + 1) ^ count = pow-le-pow_left (let l : m + 2 ≤ suc bound + 1 = omega arith in l) count in
      let many : 20000 < (m + 2) ^ count = over (omega arith) in
      most_ends count bound m below few (λ l. many)
      ∙ sym (if_false (suc bound) (most_number count bound) (nat_le ((suc bound + 1) ^ count) 20000) (lt-leb ((suc bound + 1) ^ count) 20000 (omega arith)))
]

pub still_fits : (m count : ℕ) → leb ((m + 2) ^ count) 20000 ≡ true → (m + 1 + 1) ^ count ≤ 20000
still_fits m count e = subst (λ k. k ^ count ≤ 20000) (let s : m + 2 ≡ m + 1 + 1 = omega arith in s) (leb-true ((m + 2) ^ count) 20000 e)

pub no_more_fit : (m count : ℕ) → leb ((m + 2) ^ count) 20000 ≡ false → 20000 < (m + 2) ^ count
no_more_fit m count e = leb-false ((m + 2) ^ count) 20000 e

-- a product that is too large, and the whole one
pub too_large : (b i count : ℕ) → 0 < b → i < count → 20000 < b ^ i * b → leb (b ^ count) 20000 ≡ false
too_large b i count some l over =
    let more : b ^ (i + 1) ≤ b ^ count = pow-le-pow_right some (let k : i + 1 ≤ count = omega arith in k) in
    let next : b ^ (i + 1) ≡ b ^ i * b = pow_more b i in
    lt-leb (b ^ count) 20000 (omega (arith, next))

pub not_too_large : (b i count : ℕ) → count ≤ i → i ≤ count → b ^ i ≤ 20000 → leb (b ^ count) 20000 ≡ true
not_too_large b i count l k few = le-leb (b ^ count) 20000 (subst (λ n. b ^ n ≤ 20000) (let e : i ≡ count = omega arith in e) few)

pub ruleset bounds = (least_fits, most_ends, still_fits, no_more_fit)

pub ruleset powers = (too_large, not_too_large)

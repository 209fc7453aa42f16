-- Values of digits.
use Rattle.std.proofs.Common.{◌≡◌, ℕ, zero, suc, ◌+◌, ◌-◌, ◌*◌, ◌^◌, ◌<◌, ◌≤◌, Bool, true, false, ltb, List, [], ◌∷◌, length, take, drop, get_or, inl, inr, refl, sym, ap, subst, ◌∙◌, arith}
use Rattle.std.proofs.lemmas.Bool.{le-ltb, lt-ltb, cases_Bool, cond-true, cond-false, and_from, and_parts}
use Rattle.std.proofs.lemmas.List.{drop_more}
use Rattle.std.proofs.lemmas.List.Sums.{prefix_len-le-length}
use Rattle.std.specs.List.{list_all, prefix_len}
use Rattle.tg_lex.specs.Grammar.{value_from}

-- digits after a number don't make it smaller
pub grows : (n : ℕ) (ds : List ℕ) → n ≤ value_from n ds
grows n [] = omega arith
grows n (d ∷ ds) = omega (arith, grows (10 * n + (d - 48)) ds)

pub next_value : (n i : ℕ) (ds : List ℕ) (all : ℕ) → value_from n (drop i ds) ≡ all → i < length ds → value_from (10 * n + (get_or ds i 0 - 48)) (drop (i + 1) ds) ≡ all
next_value n i ds all e lt = sym (ap (value_from n) (drop_more ds i 0 lt)) ∙ e

pub too_large : (n i : ℕ) (ds : List ℕ) (all : ℕ) → value_from n (drop i ds) ≡ all → i < length ds → 2 ^ 64 ≤ 10 * n + (get_or ds i 0 - 48) → ltb all (2 ^ 64) ≡ false
too_large n i ds all e lt big =
    le-ltb all (2 ^ 64) (subst (λ k. 2 ^ 64 ≤ k) (next_value n i ds all e lt) (omega (arith, grows (10 * n + (get_or ds i 0 - 48)) (drop (i + 1) ds))))

pub is_below : (n : ℕ) (all : ℕ) → n ≡ all → n < 2 ^ 64 → ltb all (2 ^ 64) ≡ true
is_below n all e lt = lt-ltb all (2 ^ 64) (subst (λ k. k < 2 ^ 64) e lt)

pub longer : {X : Type 0} (p : X → Bool) (x : X) (xs : List X) → p x ≡ true → prefix_len p (x ∷ xs) ≡ suc (prefix_len p xs)
longer p x xs passes = cond-true (p x) (1 + prefix_len p xs) 0 passes ∙ omega arith

-- the digits that stand at the front are digits
pub run_passes : {X : Type 0} (p : X → Bool) (xs : List X) → list_all p (take (prefix_len p xs) xs) ≡ true
run_passes p [] = refl
run_passes p (x ∷ xs) =
    elim (cases_Bool (p x)) [
      | inl passes ↦ subst (λ n. list_all p (take n (x ∷ xs)) ≡ true) (sym (longer p x xs passes)) (and_from (p x) (list_all p (take (prefix_len p xs) xs)) passes (run_passes p xs))
      | inr fails ↦ subst (λ n. list_all p (take n (x ∷ xs)) ≡ true) (sym (cond-false (p x) (1 + prefix_len p xs) 0 fails)) refl
    ]

-- and no longer front has only digits
pub run_longest : {X : Type 0} (p : X → Bool) (xs : List X) (n : ℕ) → n ≤ length xs → list_all p (take n xs) ≡ true → n ≤ prefix_len p xs
run_longest p xs zero le all = omega arith
run_longest p [] (suc n) le all = absurd (omega arith)
run_longest p (x ∷ xs) (suc n) le all =
    let parts = and_parts (p x) (list_all p (take n xs)) all in
    omega (arith, run_longest p xs n (omega arith) parts.1, longer p x xs parts.0)

pub run_within : {X : Type 0} (p : X → Bool) (xs : List X) → prefix_len p xs ≤ length xs
run_within p xs = prefix_len-le-length p xs

-- Tests and outcomes by their numbers.
use Rattle.std.specs.Prelude.{ℕ, ◌≡◌, Bool, false, nat_eq, List, [], ◌∷◌, Option}
use Rattle.std.specs.List.{find, list_any}
use Rattle.tg_term.specs.declared.classes.Test.{Test}
use Rattle.tg_term.specs.declared.classes.Outcome.{Outcome}

abbrev pub is_among : ℕ → List ℕ → Bool
is_among n ns = list_any (nat_eq n) ns

-- no number twice
abbrev pub AreOnce : List ℕ → Type 0
AreOnce [] = Unit {0}
AreOnce (n ∷ ns) = (is_among n ns ≡ false) × AreOnce ns

-- a test has the number of its class, and an outcome that of its test
abbrev pub test_number : Test → ℕ
test_number t = t.class

abbrev pub outcome_number : Outcome → ℕ
outcome_number o = o.test

-- the test of a class, and the outcome of a test
abbrev pub test_of : List Test → ℕ → Option Test
test_of ts n = find (λ t. nat_eq n (test_number t)) ts

abbrev pub outcome_of : List Outcome → ℕ → Option Outcome
outcome_of os n = find (λ o. nat_eq n (outcome_number o)) os

-- the same numbers are among them
abbrev pub HaveSame : List ℕ → List ℕ → Type 0
HaveSame ms ns = (n : ℕ) → is_among n ms ≡ is_among n ns

-- The operators by their numbers: an operator's number is its place, from 1, in the list of those with a name.
use Rattle.std.specs.Prelude.{◌≡◌, ℕ, zero, suc, ◌+◌, List, [], ◌∷◌, slice_get, unwrap_or, refl}
use Rattle.std.proofs.Common.{◌∙◌, arith}
use Rattle.tg_model.specs.Theory.{numbered}
use Rattle.tg_model.specs.Tree.{Operator, operators, successor, negation, conjunction, disjunction, implication, equality, less, less_equal, plus, minus, times, divide, modulo, unnamed}

abbrev pub operator : ℕ → Operator
operator n = unwrap_or (numbered operators n) (unnamed n)

-- the number back
abbrev pub operator_number : Operator → ℕ
operator_number successor = 1
operator_number negation = 2
operator_number conjunction = 3
operator_number disjunction = 4
operator_number implication = 5
operator_number equality = 6
operator_number less = 7
operator_number less_equal = 8
operator_number plus = 9
operator_number minus = 10
operator_number times = 11
operator_number divide = 12
operator_number modulo = 13
operator_number (unnamed n) = n

-- the operators of a list have the numbers from `k` on
abbrev AreNumbered : ℕ → List Operator → Type 0
AreNumbered k [] = Unit {0}
AreNumbered k (o ∷ os) = (operator_number o ≡ k) × AreNumbered (suc k) os

number_at : (os : List Operator) (k i n : ℕ) → AreNumbered k os → n ≡ k + i → operator_number (unwrap_or (slice_get os i) (unnamed n)) ≡ n
number_at [] k i n h e = refl
number_at (o ∷ os) k zero n h e = h.0 ∙ (let s : k ≡ n = omega arith in s)
number_at (o ∷ os) k (suc i) n h e = number_at os (suc k) i n h.1 (omega arith)

-- the operator of a number gives the number back
pub operator_number-operator : (n : ℕ) → operator_number (operator n) ≡ n
operator_number-operator zero = refl
operator_number-operator (suc n) =
    number_at operators 1 n (suc n) (refl, (refl, (refl, (refl, (refl, (refl, (refl, (refl, (refl, (refl, (refl, (refl, (refl, tt))))))))))))) (omega arith)

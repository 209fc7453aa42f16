-- The operators by number, on values.
use Rattle.std.proofs.Common.{ℕ, zero, suc, ◌≡◌, ◌≢◌, ◌<◌, ◌≤◌, ◌/◌, ◌%◌, Bool, true, false, ◌&&◌, List, [], ◌∷◌, length, Some, None, refl, ap, sym, ◌∙◌, arith}
use Rattle.std.specs.Prelude.{nat_lt}
use Rattle.tg_model.specs.Tree.{Operator, successor, negation, conjunction, disjunction, implication, equality, less, less_equal, plus, minus, times, divide, modulo, unnamed}
use Rattle.tg_model.specs.Value.{Value, number, boolean, made, values, same_value, same_values, wrong}
use Rattle.tg_model.specs.Denotation.{operated, quotient, remainder, on_number, on_numbers, on_truth, on_truths}
use Rattle.tg_term.specs.Operators.{operator, operator_number, operator_number-operator}
use Rattle.std.proofs.lemmas.Bool.{lt-ltb, ltb-true}
use Rattle.tg_model.proofs.Booleans.{if_true, if_false}
use Rattle.tg_eval.specs.Operating.{bounded, connects}
use Rattle.tg_eval.proofs.HeldLaws.{held_height, held_from}

pub quotient_zero : (m n : ℕ) → n ≡ 0 → quotient m n ≡ 0
quotient_zero m n e = ap (quotient m) e

pub quotient_some : (m n : ℕ) → n ≢ 0 → quotient m n ≡ m / n
quotient_some m zero h = absurd (h refl)
quotient_some m (suc n) h = refl

pub remainder_zero : (m n : ℕ) → n ≡ 0 → remainder m n ≡ m
remainder_zero m n e = ap (remainder m) e

pub remainder_some : (m n : ℕ) → n ≢ 0 → remainder m n ≡ m % n
remainder_some m zero h = absurd (h refl)
remainder_some m (suc n) h = refl

pub ruleset division = (quotient_zero, quotient_some, remainder_zero, remainder_some)

pub ruleset comparing = (held_height, held_from)

and_false : (b : Bool) → false ≡ (b && false)
and_false true = refl
and_false false = refl

pub other_lengths : (vs ws : List Value) → ¬ (length vs ≡ length ws) → false ≡ same_values (values vs) (values ws)
other_lengths [] [] h = absurd (h refl)
other_lengths [] (w ∷ ws) h = refl
other_lengths (v ∷ vs) [] h = refl
other_lengths (v ∷ vs) (w ∷ ws) h =
    and_false (same_value v w) ∙ ap (λ b. same_value v w && b) (other_lengths vs ws (λ e. h (ap suc e)))

number_is : (o : ℕ) (p : Operator) → operator o ≡ p → o ≡ operator_number p
number_is o p e = sym (operator_number-operator o) ∙ ap operator_number e

one_number : (f : ℕ → ℕ → Value) (v : Value) → on_numbers f (v ∷ []) ≡ wrong
one_number f (number n) = refl
one_number f (boolean b) = refl
one_number f (made c vs) = refl

one_truth : (f : Bool → Bool → Bool) (v : Value) → on_truths f (v ∷ []) ≡ wrong
one_truth f (number n) = refl
one_truth f (boolean b) = refl
one_truth f (made c vs) = refl

-- an operator of two operands at one
other_one_at : (p : Operator) (v : Value) → p ≢ successor → p ≢ negation → operated p (v ∷ []) ≡ wrong
other_one_at successor v h k = absurd (h refl)
other_one_at negation v h k = absurd (k refl)
other_one_at conjunction v h k = one_truth _ v
other_one_at disjunction v h k = one_truth _ v
other_one_at implication v h k = one_truth _ v
other_one_at equality v h k = refl
other_one_at less v h k = one_number _ v
other_one_at less_equal v h k = one_number _ v
other_one_at plus v h k = one_number _ v
other_one_at minus v h k = one_number _ v
other_one_at times v h k = one_number _ v
other_one_at divide v h k = one_number _ v
other_one_at modulo v h k = one_number _ v
other_one_at (unnamed n) v h k = refl

pub other_one : (o : ℕ) (v : Value) → o ≢ 1 → o ≢ 2 → Some wrong ≡ bounded (operated (operator o) (v ∷ []))
other_one o v h k = ap bounded (sym (other_one_at (operator o) v (λ e. h (number_is o successor e)) (λ e. k (number_is o negation e))))

-- no operator of numbers
other_numbers_at : (p : Operator) (m n : ℕ) → p ≢ equality → p ≢ less → p ≢ less_equal → p ≢ plus → p ≢ minus → p ≢ times → p ≢ divide → p ≢ modulo
    → operated p (number m ∷ number n ∷ []) ≡ wrong
other_numbers_at successor m n a b c d e f g h = refl
other_numbers_at negation m n a b c d e f g h = refl
other_numbers_at conjunction m n a b c d e f g h = refl
other_numbers_at disjunction m n a b c d e f g h = refl
other_numbers_at implication m n a b c d e f g h = refl
other_numbers_at equality m n a b c d e f g h = absurd (a refl)
other_numbers_at less m n a b c d e f g h = absurd (b refl)
other_numbers_at less_equal m n a b c d e f g h = absurd (c refl)
other_numbers_at plus m n a b c d e f g h = absurd (d refl)
other_numbers_at minus m n a b c d e f g h = absurd (e refl)
other_numbers_at times m n a b c d e f g h = absurd (f refl)
other_numbers_at divide m n a b c d e f g h = absurd (g refl)
other_numbers_at modulo m n a b c d e f g h = absurd (h refl)
other_numbers_at (unnamed k) m n a b c d e f g h = refl

pub other_numbers : (o m n : ℕ) → o ≢ 6 → o ≢ 7 → o ≢ 8 → o ≢ 9 → o ≢ 10 → o ≢ 11 → o ≢ 12 → o ≢ 13
    → Some wrong ≡ bounded (operated (operator o) (number m ∷ number n ∷ []))
other_numbers o m n a b c d e f g h =
    ap bounded (sym (other_numbers_at (operator o) m n (λ x. a (number_is o equality x)) (λ x. b (number_is o less x))
    (λ x. c (number_is o less_equal x)) (λ x. d (number_is o plus x)) (λ x. e (number_is o minus x)) (λ x. f (number_is o times x))
    (λ x. g (number_is o divide x)) (λ x. h (number_is o modulo x))))

-- no connective of two truth values
other_truths_at : (p : Operator) (a b : Bool) → p ≢ conjunction → p ≢ disjunction → p ≢ implication → p ≢ equality → operated p (boolean a ∷ boolean b ∷ []) ≡ wrong
other_truths_at successor a b h i j k = refl
other_truths_at negation a b h i j k = refl
other_truths_at conjunction a b h i j k = absurd (h refl)
other_truths_at disjunction a b h i j k = absurd (i refl)
other_truths_at implication a b h i j k = absurd (j refl)
other_truths_at equality a b h i j k = absurd (k refl)
other_truths_at less a b h i j k = refl
other_truths_at less_equal a b h i j k = refl
other_truths_at plus a b h i j k = refl
other_truths_at minus a b h i j k = refl
other_truths_at times a b h i j k = refl
other_truths_at divide a b h i j k = refl
other_truths_at modulo a b h i j k = refl
other_truths_at (unnamed n) a b h i j k = refl

pub other_truths : (o : ℕ) (a b : Bool) → o ≢ 3 → o ≢ 4 → o ≢ 5 → o ≢ 6 → wrong ≡ operated (operator o) (boolean a ∷ boolean b ∷ [])
other_truths o a b h i j k =
    sym (other_truths_at (operator o) a b (λ x. h (number_is o conjunction x)) (λ x. i (number_is o disjunction x))
    (λ x. j (number_is o implication x)) (λ x. k (number_is o equality x)))

-- two numbers or two truth values
abbrev pub AreAlike : Value → Value → Type 0
AreAlike (number m) (number n) = Unit {0}
AreAlike (boolean a) (boolean b) = Unit {0}
AreAlike v w = ⊥

not_numbers : (f : ℕ → ℕ → Value) (v w : Value) → ¬ AreAlike v w → on_numbers f (v ∷ w ∷ []) ≡ wrong
not_numbers f (number m) (number n) h = absurd (h tt)
not_numbers f (number m) (boolean b) h = refl
not_numbers f (number m) (made c vs) h = refl
not_numbers f (boolean a) w h = refl
not_numbers f (made c vs) w h = refl

not_truths : (f : Bool → Bool → Bool) (v w : Value) → ¬ AreAlike v w → on_truths f (v ∷ w ∷ []) ≡ wrong
not_truths f (boolean a) (boolean b) h = absurd (h tt)
not_truths f (boolean a) (number n) h = refl
not_truths f (boolean a) (made c vs) h = refl
not_truths f (number m) w h = refl
not_truths f (made c vs) w h = refl

two_number : (f : ℕ → Value) (v w : Value) → on_number f (v ∷ w ∷ []) ≡ wrong
two_number f (number n) w = refl
two_number f (boolean b) w = refl
two_number f (made c vs) w = refl

two_truth : (f : Bool → Bool) (v w : Value) → on_truth f (v ∷ w ∷ []) ≡ wrong
two_truth f (number n) w = refl
two_truth f (boolean b) w = refl
two_truth f (made c vs) w = refl

unlike_at : (p : Operator) (v w : Value) → p ≢ equality → ¬ AreAlike v w → operated p (v ∷ w ∷ []) ≡ wrong
unlike_at successor v w h k = two_number _ v w
unlike_at negation v w h k = two_truth _ v w
unlike_at conjunction v w h k = not_truths _ v w k
unlike_at disjunction v w h k = not_truths _ v w k
unlike_at implication v w h k = not_truths _ v w k
unlike_at equality v w h k = absurd (h refl)
unlike_at less v w h k = not_numbers _ v w k
unlike_at less_equal v w h k = not_numbers _ v w k
unlike_at plus v w h k = not_numbers _ v w k
unlike_at minus v w h k = not_numbers _ v w k
unlike_at times v w h k = not_numbers _ v w k
unlike_at divide v w h k = not_numbers _ v w k
unlike_at modulo v w h k = not_numbers _ v w k
unlike_at (unnamed n) v w h k = refl

pub unlike : (o : ℕ) (v w : Value) → o ≢ 6 → ¬ AreAlike v w → Some wrong ≡ bounded (operated (operator o) (v ∷ w ∷ []))
unlike o v w h k = ap bounded (sym (unlike_at (operator o) v w (λ e. h (number_is o equality e)) k))

-- a number within its bound, and one past it
pub small : (n : ℕ) → n < 18446744073709551616 → Some (number n) ≡ bounded (number n)
small n h = sym (if_true (Some (number n)) None (nat_lt n 18446744073709551616) (lt-ltb n 18446744073709551616 h))

not_below : (n k : ℕ) → k ≤ n → nat_lt n k ≡ false
not_below n k h = by (nat_lt n k) refl
  where
    by : (b : Bool) → nat_lt n k ≡ b → b ≡ false
    by false e = refl
    by true e = let low = ltb-true n k e in absurd (omega arith)

pub large : (n : ℕ) → 18446744073709551616 ≤ n → None ≡ bounded (number n)
large n h = sym (if_false (Some (number n)) None (nat_lt n 18446744073709551616) (not_below n 18446744073709551616 h))

pub ruleset operators = (other_one, other_numbers, other_truths)

-- ---- connectives

not_connective_at : (p : Operator) → p ≢ conjunction → p ≢ disjunction → p ≢ implication → connects p ≡ false
not_connective_at successor a b c = refl
not_connective_at negation a b c = refl
not_connective_at conjunction a b c = absurd (a refl)
not_connective_at disjunction a b c = absurd (b refl)
not_connective_at implication a b c = absurd (c refl)
not_connective_at equality a b c = refl
not_connective_at less a b c = refl
not_connective_at less_equal a b c = refl
not_connective_at plus a b c = refl
not_connective_at minus a b c = refl
not_connective_at times a b c = refl
not_connective_at divide a b c = refl
not_connective_at modulo a b c = refl
not_connective_at (unnamed n) a b c = refl

pub not_connective : (o : ℕ) → o ≢ 3 → o ≢ 4 → o ≢ 5 → false ≡ connects (operator o)
not_connective o a b c =
    sym (not_connective_at (operator o) (λ e. a (number_is o conjunction e)) (λ e. b (number_is o disjunction e)) (λ e. c (number_is o implication e)))

-- two truth values
abbrev pub AreTruths : Value → Value → Type 0
AreTruths (boolean a) (boolean b) = Unit {0}
AreTruths v w = ⊥

pub joined_unlike : (p : Operator) (v w : Value) → connects p ≡ true → ¬ AreTruths v w → wrong ≡ operated p (v ∷ w ∷ [])
joined_unlike p v w c h = sym (by p c)
  where
    by_truths : (f : Bool → Bool → Bool) (v w : Value) → ¬ AreTruths v w → on_truths f (v ∷ w ∷ []) ≡ wrong
    by_truths f (boolean a) (boolean b) k = absurd (k tt)
    by_truths f (boolean a) (number n) k = refl
    by_truths f (boolean a) (made e vs) k = refl
    by_truths f (number m) y k = refl
    by_truths f (made e vs) y k = refl

    by : (p : Operator) → connects p ≡ true → operated p (v ∷ w ∷ []) ≡ wrong
    by conjunction e = by_truths _ v w h
    by disjunction e = by_truths _ v w h
    by implication e = by_truths _ v w h
    by o e = cc e

pub ruleset connectives = (not_connective, joined_unlike)

-- The signs of operators by their numbers.
use Rattle.std.proofs.Common.{◌≡◌, ◌≢◌, ℕ, false, [], refl, sym, ap, ◌∙◌}
use Rattle.tg_model.specs.Tree.{Operator, successor, negation, conjunction, disjunction, implication, equality, less, less_equal, plus}
use Rattle.tg_model.specs.Tree.{minus, times, divide, modulo, unnamed}
use Rattle.tg_term.specs.Operators.{operator, operator_number, operator_number-operator}
use Rattle.tg_report.specs.TermTexts.{is_infix}
use Rattle.tg_report.specs.Words.{sign}

number_is : (o : ℕ) (p : Operator) → operator o ≡ p → o ≡ operator_number p
number_is o p e = sym (operator_number-operator o) ∙ ap operator_number e

no_infix_at : (p : Operator) → p ≢ conjunction → p ≢ disjunction → p ≢ implication → p ≢ equality → p ≢ less → p ≢ less_equal → p ≢ plus → p ≢ minus
    → p ≢ times → p ≢ divide → p ≢ modulo → false ≡ is_infix p
no_infix_at successor a b c d e f g h i j k = refl
no_infix_at negation a b c d e f g h i j k = refl
no_infix_at conjunction a b c d e f g h i j k = absurd (a refl)
no_infix_at disjunction a b c d e f g h i j k = absurd (b refl)
no_infix_at implication a b c d e f g h i j k = absurd (c refl)
no_infix_at equality a b c d e f g h i j k = absurd (d refl)
no_infix_at less a b c d e f g h i j k = absurd (e refl)
no_infix_at less_equal a b c d e f g h i j k = absurd (f refl)
no_infix_at plus a b c d e f g h i j k = absurd (g refl)
no_infix_at minus a b c d e f g h i j k = absurd (h refl)
no_infix_at times a b c d e f g h i j k = absurd (i refl)
no_infix_at divide a b c d e f g h i j k = absurd (j refl)
no_infix_at modulo a b c d e f g h i j k = absurd (k refl)
no_infix_at (unnamed n) a b c d e f g h i j k = refl

pub no_infix : (o : ℕ) → o ≢ 3 → o ≢ 4 → o ≢ 5 → o ≢ 6 → o ≢ 7 → o ≢ 8 → o ≢ 9 → o ≢ 10 → o ≢ 11 → o ≢ 12 → o ≢ 13 → false ≡ is_infix (operator o)
no_infix o a b c d e f g h i j k =
    no_infix_at (operator o) (λ x. a (number_is o conjunction x)) (λ x. b (number_is o disjunction x)) (λ x. c (number_is o implication x))
    (λ x. d (number_is o equality x)) (λ x. e (number_is o less x)) (λ x. f (number_is o less_equal x)) (λ x. g (number_is o plus x))
    (λ x. h (number_is o minus x)) (λ x. i (number_is o times x)) (λ x. j (number_is o divide x)) (λ x. k (number_is o modulo x))

no_sign_at : (p : Operator) → p ≢ successor → p ≢ negation → false ≡ is_infix p → [] ≡ (sign p).text
no_sign_at successor a b e = absurd (a refl)
no_sign_at negation a b e = absurd (b refl)
no_sign_at (unnamed n) a b e = refl
no_sign_at _ a b e = absurd cc

pub no_sign : (o : ℕ) → o ≢ 1 → o ≢ 2 → o ≢ 3 → o ≢ 4 → o ≢ 5 → o ≢ 6 → o ≢ 7 → o ≢ 8 → o ≢ 9 → o ≢ 10 → o ≢ 11 → o ≢ 12 → o ≢ 13
    → [] ≡ (sign (operator o)).text
no_sign o l m a b c d e f g h i j k =
    no_sign_at (operator o) (λ x. l (number_is o successor x)) (λ x. m (number_is o negation x)) (no_infix o a b c d e f g h i j k)

pub ruleset signs = (no_infix, no_sign)

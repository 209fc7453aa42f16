-- The operators at values that are known by hand: whole truth tables, comparisons on each side, and arithmetic on naturals.
use Rattle.std.proofs.Common.{ℕ, ◌≡◌, Bool, true, false, refl, []}
use Rattle.tg_model.specs.Tree.{literal, truth, op, one, two, Operator, successor, negation, conjunction, disjunction, implication, equality, less, less_equal, plus, minus, times, divide, modulo}
use Rattle.tg_model.specs.Value.{Value, number, boolean}
use Rattle.tg_model.proofs.KnownValues.{value_of, nil, cons}

abbrev on_truths : Operator → Bool → Bool → Value
on_truths o a b = value_of [] (op o (two (truth a) (truth b)))

abbrev on_numbers : Operator → ℕ → ℕ → Value
on_numbers o m n = value_of [] (op o (two (literal m) (literal n)))

not : (value_of [] (op negation (one (truth true))) ≡ boolean false) × (value_of [] (op negation (one (truth false))) ≡ boolean true)
not = (refl, refl)

and : (on_truths conjunction true true ≡ boolean true) × (on_truths conjunction true false ≡ boolean false)
    × (on_truths conjunction false true ≡ boolean false) × (on_truths conjunction false false ≡ boolean false)
and = (refl, refl, refl, refl)

or : (on_truths disjunction true true ≡ boolean true) × (on_truths disjunction true false ≡ boolean true)
    × (on_truths disjunction false true ≡ boolean true) × (on_truths disjunction false false ≡ boolean false)
or = (refl, refl, refl, refl)

implies : (on_truths implication true true ≡ boolean true) × (on_truths implication true false ≡ boolean false)
    × (on_truths implication false true ≡ boolean true) × (on_truths implication false false ≡ boolean true)
implies = (refl, refl, refl, refl)

equal_truths : (on_truths equality true true ≡ boolean true) × (on_truths equality true false ≡ boolean false)
    × (on_truths equality false true ≡ boolean false) × (on_truths equality false false ≡ boolean true)
equal_truths = (refl, refl, refl, refl)

equal_numbers : (on_numbers equality 2 3 ≡ boolean false) × (on_numbers equality 3 3 ≡ boolean true) × (on_numbers equality 4 3 ≡ boolean false)
equal_numbers = (refl, refl, refl)

equal_lists : (value_of [] (op equality (two (cons (literal 1) nil) (cons (literal 1) nil))) ≡ boolean true)
    × (value_of [] (op equality (two (cons (literal 1) nil) (cons (literal 2) nil))) ≡ boolean false)
    × (value_of [] (op equality (two (cons (literal 1) nil) nil)) ≡ boolean false)
equal_lists = (refl, refl, refl)

-- at less, equal and greater
below : (on_numbers less 2 3 ≡ boolean true) × (on_numbers less 3 3 ≡ boolean false) × (on_numbers less 4 3 ≡ boolean false)
below = (refl, refl, refl)

at_most : (on_numbers less_equal 2 3 ≡ boolean true) × (on_numbers less_equal 3 3 ≡ boolean true) × (on_numbers less_equal 4 3 ≡ boolean false)
at_most = (refl, refl, refl)

successors : (value_of [] (op successor (one (literal 0))) ≡ number 1) × (value_of [] (op successor (one (literal 41))) ≡ number 42)
successors = (refl, refl)

sums : (on_numbers plus 7 5 ≡ number 12) × (on_numbers plus 0 5 ≡ number 5) × (on_numbers plus 7 0 ≡ number 7)
sums = (refl, refl, refl)

-- a difference is 0 where the first number isn't greater
differences : (on_numbers minus 7 5 ≡ number 2) × (on_numbers minus 5 5 ≡ number 0) × (on_numbers minus 5 7 ≡ number 0)
differences = (refl, refl, refl)

products : (on_numbers times 7 5 ≡ number 35) × (on_numbers times 0 5 ≡ number 0) × (on_numbers times 7 1 ≡ number 7)
products = (refl, refl, refl)

quotients : (on_numbers divide 7 2 ≡ number 3) × (on_numbers divide 2 7 ≡ number 0) × (on_numbers divide 7 0 ≡ number 0)
quotients = (refl, refl, refl)

remainders : (on_numbers modulo 7 2 ≡ number 1) × (on_numbers modulo 2 7 ≡ number 2) × (on_numbers modulo 7 0 ≡ number 7)
remainders = (refl, refl, refl)

-- no number wraps
past_64_bits : on_numbers plus 18446744073709551615 1 ≡ number 18446744073709551616
past_64_bits = refl

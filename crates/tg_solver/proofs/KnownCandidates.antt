-- Candidates that are known by hand.
use Rattle.std.proofs.Common.{◌≡◌, ℕ, true, false, [], ◌∷◌, Some, None, find, refl}
use Rattle.tg_model.specs.Tree.{Tree, free, literal, op, put, two, one, equality, less, successor}
use Rattle.tg_model.specs.Value.{number, boolean}
use Rattle.tg_model.proofs.KnownValues.{sorting}
use Rattle.tg_eval.specs.Limited.{limited}
use Rattle.tg_types.specs.declared.options.Settings.{Settings}
use Rattle.tg_solver.specs.Numbers.{in_order, most_number}
use Rattle.tg_solver.specs.Draws.{generator, word, after_word, draws}
use Rattle.tg_solver.specs.Candidates.{candidates, holds, satisfies}

-- the greatest number first, then the first variable; each assignment once
two_numbers : in_order 2 (false ∷ false ∷ [])
    ≡ (number 0 ∷ number 0 ∷ []) ∷ (number 0 ∷ number 1 ∷ []) ∷ (number 1 ∷ number 0 ∷ []) ∷ (number 1 ∷ number 1 ∷ [])
    ∷ (number 0 ∷ number 2 ∷ []) ∷ (number 1 ∷ number 2 ∷ []) ∷ (number 2 ∷ number 0 ∷ []) ∷ (number 2 ∷ number 1 ∷ []) ∷ (number 2 ∷ number 2 ∷ []) ∷ []
two_numbers = refl

-- True counts as 1, and a truth variable has no more values
truth_first : in_order 2 (true ∷ false ∷ [])
    ≡ (boolean false ∷ number 0 ∷ []) ∷ (boolean false ∷ number 1 ∷ []) ∷ (boolean true ∷ number 0 ∷ []) ∷ (boolean true ∷ number 1 ∷ [])
    ∷ (boolean false ∷ number 2 ∷ []) ∷ (boolean true ∷ number 2 ∷ []) ∷ []
truth_first = refl

truths_alone : (in_order 3 (true ∷ []) ≡ (boolean false ∷ []) ∷ (boolean true ∷ []) ∷ []) × (in_order 0 (true ∷ []) ≡ (boolean false ∷ []) ∷ [])
truths_alone = (refl, refl)

no_variable : (in_order 0 [] ≡ [] ∷ []) × (in_order 3 [] ≡ [] ∷ [])
no_variable = (refl, refl)

-- 3^8 is 6,561 and 4^8 is 65,536; 2^14 is 16,384; 141^2 is 19,881; all variables count
how_far : (most_number 1 1000 ≡ 1000) × (most_number 1 20001 ≡ 19999) × (most_number 2 200 ≡ 140) × (most_number 2 140 ≡ 140) × (most_number 2 139 ≡ 139)
    × (most_number 8 8 ≡ 2) × (most_number 8 1 ≡ 1) × (most_number 14 8 ≡ 1) × (most_number 15 8 ≡ 0) × (most_number 0 8 ≡ 8) × (most_number 3 0 ≡ 0)
how_far = (refl, refl, refl, refl, refl, refl, refl, refl, refl, refl, refl)

-- The first words of the reference implementation's own example, seed 42 and stream 54, are a15c02b7, 7b47f409, ba1d3330
-- and 83d2f293.
words_in_order : draws 2 16 (false ∷ false ∷ []) (generator 42 54) ≡ (number 0x02b7 ∷ number 0xf409 ∷ []) ∷ (number 0x3330 ∷ number 0xf293 ∷ []) ∷ []
unfolding generator word after_word
words_in_order = refl

-- a truth variable takes a whole word too, and is True where the word is odd
word_of_a_truth : draws 1 4 (true ∷ false ∷ true ∷ []) (generator 42 54) ≡ (boolean true ∷ number 9 ∷ boolean false ∷ []) ∷ []
unfolding generator word after_word
word_of_a_truth = refl

all_bits : draws 1 32 (false ∷ []) (generator 42 54) ≡ (number 0xa15c02b7 ∷ []) ∷ []
unfolding generator word after_word
all_bits = refl

-- the words of seed 1 and stream 1
of_one : draws 3 32 (false ∷ []) (generator 1 1) ≡ (number 0xc9828f91 ∷ []) ∷ (number 0x1592e274 ∷ []) ∷ (number 0xc0262657 ∷ []) ∷ []
unfolding generator word after_word
of_one = refl

no_draws : draws 3 16 [] (generator 42 54) ≡ []
no_draws = refl

abbrev settings : ℕ → ℕ → Settings
settings bound tries = record { depth = 3; bound = bound; seed = 42; tries = tries; width = 16 }

-- small numbers come first, then draws; with no variable one candidate is all
in_a_row : (candidates (false ∷ []) (settings 2 1) 54 ≡ (number 0 ∷ []) ∷ (number 1 ∷ []) ∷ (number 2 ∷ []) ∷ (number 0x02b7 ∷ []) ∷ [])
    × (candidates [] (settings 2 1) 54 ≡ [] ∷ [])
unfolding generator word after_word
in_a_row = (refl, refl)

abbrev equal : Tree → Tree → Tree
equal t u = op equality (two t u)

-- the first that satisfies all, and none; the last constraint passes the bound of numbers, a program call gives False
first_of_all : (find (satisfies sorting (equal (free 1) (literal 2) ∷ [])) (candidates (false ∷ []) (settings 8 0) 1) ≡ Some (number 2 ∷ []))
    × (find (satisfies sorting (equal (free 1) (literal 2) ∷ [])) (candidates (false ∷ []) (settings 1 0) 1) ≡ None)
    × (find (satisfies sorting (op less (two (free 1) (free 2)) ∷ op less (two (free 2) (free 3)) ∷ [])) (candidates (false ∷ false ∷ false ∷ []) (settings 2 0) 1) ≡ Some (number 0 ∷ number 1 ∷ number 2 ∷ []))
    × (find (satisfies sorting (op less (two (free 2) (free 1)) ∷ [])) (candidates (false ∷ false ∷ []) (settings 2 0) 1) ≡ Some (number 1 ∷ number 0 ∷ []))
    × (find (satisfies sorting (free 1 ∷ [])) (candidates (true ∷ []) (settings 2 0) 1) ≡ Some (boolean true ∷ []))
    × (find (satisfies sorting []) (candidates (false ∷ []) (settings 2 0) 1) ≡ Some (number 0 ∷ []))
    × (find (satisfies sorting (equal (op successor (one (literal 18446744073709551615))) (free 1) ∷ [])) (candidates (false ∷ []) (settings 1 0) 1) ≡ None)
    × (find (satisfies sorting (put (one (free 1)) ∷ [])) (candidates (false ∷ []) (settings 1 0) 1) ≡ None)
unfolding holds limited
first_of_all = (refl, refl, refl, refl, refl, refl, refl, refl)

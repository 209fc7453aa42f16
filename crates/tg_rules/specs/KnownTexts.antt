-- What is known of the example by hand.
use Rattle.std.specs.Prelude.{◌≡◌, ◌↔◌, List, [], ◌∷◌}
use Rattle.tg_rules.specs.Texts.{Reads}
use Rattle.tg_rules.specs.Fault.{IsFault}
use Rattle.tg_rules.specs.Differences.{Token, number, minus, open_bracket, kind, Tree, leaf, less, difference, rule}

abbrev pub one : Token
one = number 1

abbrev pub two : Token
two = number 2

abbrev pub three : Token
three = number 3

abbrev pub IsText : Tree → List Token → Type 0
IsText v ts = Reads kind rule difference v ts

-- `1 - 2 - 3` is (1 - 2) - 3 and nothing else
abbrev pub GroupsToTheLeft : Type 0
GroupsToTheLeft = (v : Tree) → IsText v (one ∷ minus ∷ two ∷ minus ∷ three ∷ []) ↔ (v ≡ less (less (leaf 1) (leaf 2)) (leaf 3))

-- `1 - - 2` is wrong at the second `-`
abbrev pub IsWrongAtSecondMinus : Type 0
IsWrongAtSecondMinus = IsFault IsText (one ∷ minus ∷ minus ∷ two ∷ []) (one ∷ minus ∷ []) (minus ∷ two ∷ [])

-- `(1 - 2` is wrong at its end
abbrev pub IsWrongAtEnd : Type 0
IsWrongAtEnd = IsFault IsText (open_bracket ∷ one ∷ minus ∷ two ∷ []) (open_bracket ∷ one ∷ minus ∷ two ∷ []) []

-- `1 2` is wrong behind 1, though 1 is a text
abbrev pub IsWrongBehindText : Type 0
IsWrongBehindText = IsFault IsText (one ∷ two ∷ []) (one ∷ []) (two ∷ [])

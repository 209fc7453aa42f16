-- The laws of reading, over the page.
use Rattle.std.specs.Prelude.{◌≡◌, ◌↔◌, List, [], ◌∷◌, ◌++◌}
use Rattle.tg_rules.specs.Fault.{IsFault}
use Rattle.tg_rules.specs.Reader.{ok, err}
use Rattle.tg_grammar.specs.Seen.{Seen}
use Rattle.tg_grammar.specs.Parts.{Part, Value}
use Rattle.tg_grammar.specs.Reading.{IsText, reads, step}

-- A part is read as its rule says.
abbrev pub ReadsByRule : Type 0
ReadsByRule = (n : Part) (ts : List Seen) → reads n ts ≡ step n ts

-- What is read to the end are the texts of the page.
abbrev pub ReadsTexts : Type 0
ReadsTexts = (n : Part) (v : Value n) (ts : List Seen) → (reads n ts ≡ ok v []) ↔ IsText n v ts

-- A reader stops where the fault is; and where something is left behind a text, the fault is before that.
abbrev pub StopsAtFault : Type 0
StopsAtFault = (n : Part) (front left : List Seen) → reads n (front ++ left) ≡ err left → IsFault (IsText n) (front ++ left) front left

abbrev pub StopsBeforeFault : Type 0
StopsBeforeFault = (n : Part) (front : List Seen) (v : Value n) (t : Seen) (left : List Seen) → reads n (front ++ t ∷ left) ≡ ok v (t ∷ left)
    → IsFault (IsText n) (front ++ t ∷ left) front (t ∷ left)

-- The laws of a grammar, which the crate's functions carry: of its texts, of its reader, and of the place of a fault.
use Rattle.std.specs.Prelude.{◌≡◌, ◌⊎◌, ◌↔◌, ℕ, false, List, [], ◌∷◌, ◌++◌}
use Rattle.tg_rules.specs.Rule.{Rule}
use Rattle.tg_rules.specs.Texts.{Is, Reads}
use Rattle.tg_rules.specs.Fault.{Begins, IsFault, IsLongestFront}
use Rattle.tg_rules.specs.Foresight.{Foresight}
use Rattle.tg_rules.specs.Reader.{ok, err, out, starts, read_in, read}

module _ {T : Type 0} (kind : T → ℕ) {N : Type 0} {Value : N → Type 0} (rule : (n : N) → Rule T N Value (Value n)) where
  -- The texts of a part are those of its rule.
  abbrev pub AreByRule : Type 0
  AreByRule = (n : N) (v : Value n) (ts : List T) → Reads kind rule n v ts ↔ Is kind (Reads kind rule) (rule n) v ts

  -- A text has one value.
  abbrev pub HasOneReading : Type 0
  HasOneReading = (n : N) (v w : Value n) (ts : List T) → Reads kind rule n v ts → Reads kind rule n w ts → v ≡ w

  -- All tokens are a text or have a fault,
  abbrev pub HasTextOrFault : Type 0
  HasTextOrFault = (n : N) (ts : List T) → ((v : Value n) × Reads kind rule n v ts) ⊎ ((front : List T) × (left : List T) × IsFault (Reads kind rule n) ts front left)

  -- not both,
  abbrev pub HasNotBoth : Type 0
  HasNotBoth = (n : N) (v : Value n) (ts front left : List T) → Reads kind rule n v ts → ¬ IsFault (Reads kind rule n) ts front left

  -- and the fault is at one place,
  abbrev pub HasOneFault : Type 0
  HasOneFault = (n : N) (ts p q left rest : List T) → IsFault (Reads kind rule n) ts p left → IsFault (Reads kind rule n) ts q rest → (p ≡ q) × (left ≡ rest)

  -- the end of the longest front of the tokens with which a text begins, where they are no text.
  abbrev pub HasFaultAtLongest : Type 0
  HasFaultAtLongest = (n : N) (ts front left : List T) → ts ≡ front ++ left → IsFault (Reads kind rule n) ts front left
      ↔ (IsLongestFront (Reads kind rule n) ts front × ((v : Value n) → ¬ Reads kind rule n v ts))

  -- With what begins a text, every front of it begins one.
  abbrev pub HasFronts : Type 0
  HasFronts = (n : N) (p q : List T) → Begins (Reads kind rule n) (p ++ q) → Begins (Reads kind rule n) p

  module _ (f : Foresight N) where
    -- What is read is a text, and what is left is what stands behind it.
    abbrev pub IsSound : Type 0
    IsSound = (n : N) (ts : List T) (v : Value n) (rest : List T) → read kind f rule n ts ≡ ok v rest → (p : List T) × Reads kind rule n v p × (ts ≡ p ++ rest)

    -- A text is read wherever it stands before a token that can't go on with it, or before the end.
    abbrev pub IsComplete : Type 0
    IsComplete = (n : N) (v : Value n) (p rest : List T) → Reads kind rule n v p → starts kind (f.more n) rest ≡ false → read kind f rule n (p ++ rest) ≡ ok v rest

    -- So what is read whole are the texts.
    abbrev pub ReadsTexts : Type 0
    ReadsTexts = (n : N) (v : Value n) (ts : List T) → (read kind f rule n ts ≡ ok v []) ↔ Reads kind rule n v ts

    -- A reader stops where the fault is; and where something is left behind a text, the fault is before that.
    abbrev pub StopsAtFault : Type 0
    StopsAtFault = (n : N) (ts left : List T) → read kind f rule n ts ≡ err left → (front : List T) × IsFault (Reads kind rule n) ts front left

    abbrev pub StopsBeforeFault : Type 0
    StopsBeforeFault = (n : N) (ts : List T) (v : Value n) (t : T) (left : List T) → read kind f rule n ts ≡ ok v (t ∷ left)
        → (front : List T) × IsFault (Reads kind rule n) ts front (t ∷ left)

    -- A part is read as its rule says, and the turns don't run out.
    abbrev pub ReadsByRule : Type 0
    ReadsByRule = (n : N) (ts : List T) → read kind f rule n ts ≡ read_in kind f (read kind f rule) (rule n) ts

    abbrev pub HasEnoughTurns : Type 0
    HasEnoughTurns = (n : N) (ts : List T) → ¬ (read kind f rule n ts ≡ out)

-- Two tables with the same parts.
module _ {T : Type 0} (kind : T → ℕ) {N : Type 0} {Value : N → Type 0} (rule other : (n : N) → Rule T N Value (Value n)) where
  -- The one has all readings of the other, if the rules of the other put together nothing but what the one reads already.
  abbrev pub HasReadingsOf : Type 0
  HasReadingsOf =
      ((n : N) (v : Value n) (ts : List T) → Is kind (Reads kind rule) (other n) v ts → Reads kind rule n v ts)
      → (n : N) (v : Value n) (ts : List T) → Reads kind other n v ts → Reads kind rule n v ts

  abbrev pub HaveSameReadings : Type 0
  HaveSameReadings = (n : N) (v : Value n) (ts : List T) → Reads kind rule n v ts ↔ Reads kind other n v ts

  -- With the same readings they have the same faults.
  abbrev pub HaveSameFaults : Type 0
  HaveSameFaults =
      HaveSameReadings → (n : N) (ts front left : List T) → IsFault (Reads kind rule n) ts front left ↔ IsFault (Reads kind other n) ts front left

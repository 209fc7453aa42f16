-- Laws of the grammar of tokens, over all texts.
use Rattle.std.specs.Prelude.{◌≡◌, ◌⊎◌, ℕ, ◌+◌, List, [], ◌∷◌, ◌++◌, length, map, All}
use Rattle.tg_lex.specs.declared.token.Token.{Token}
use Rattle.tg_lex.specs.declared.part.Fault.{Fault}
use Rattle.tg_lex.specs.Grammar.{token, Reads, ReadsTo, FailsAt, IsTokenOf, Rises}

-- a text has tokens or a first fault
abbrev pub IsReadOrFails : List ℕ → Type 0
IsReadOrFails bytes = ((ts : List Token) × Reads bytes ts) ⊎ ((f : Fault) × (at : ℕ) × (ts : List Token) × FailsAt bytes f at ts)

abbrev pub HasReadingOrFault : Type 0
HasReadingOrFault = (bytes : List ℕ) → IsReadOrFails bytes

-- a text has at most one list of tokens
abbrev pub HasOneReading : Type 0
HasOneReading = (bytes : List ℕ) (ts us : List Token) → Reads bytes ts → Reads bytes us → ts ≡ us

-- a text has at most one first fault, at one place and after one list of tokens
abbrev pub HasOneFault : Type 0
HasOneFault = (bytes : List ℕ) (f g : Fault) (m n : ℕ) (ts us : List Token)
    → FailsAt bytes f m ts → FailsAt bytes g n us → (f ≡ g) × (m ≡ n) × (ts ≡ us)

-- a text that has tokens has no fault
abbrev pub HasNotBoth : Type 0
HasNotBoth = (bytes : List ℕ) (f : Fault) (at : ℕ) (ts us : List Token) → Reads bytes ts → ¬ FailsAt bytes f at us

-- the tokens before a place are slices of the text of their kinds
abbrev pub HasTexts : Type 0
HasTexts = (bytes : List ℕ) (ts : List Token) (at : ℕ) → ReadsTo bytes ts at → All (IsTokenOf bytes) ts

-- and follow one another
abbrev pub HasRisingSpans : Type 0
HasRisingSpans = (bytes : List ℕ) (ts : List Token) (at : ℕ) → ReadsTo bytes ts at → Rises 0 ts

-- the token where it stands `n` bytes further on
abbrev pub moved : ℕ → Token → Token
moved n t = token t.kind (t.start + n) (t.end + n)

-- the tokens of two texts with LF between them are those of the one and then those of the other
abbrev pub ReadingsJoin : Type 0
ReadingsJoin = (a b : List ℕ) (ts us : List Token) → Reads a ts → Reads b us → Reads (a ++ 10 ∷ b) (ts ++ map (moved (length a + 1)) us)

-- the last byte is an LF
abbrev pub EndsInLine : List ℕ → Type 0
EndsInLine bytes = (front : List ℕ) × (bytes ≡ front ++ 10 ∷ [])

-- and so are the tokens of two texts of which the first ends in LF
abbrev pub ReadingsFollow : Type 0
ReadingsFollow = (a b : List ℕ) (ts us : List Token) → EndsInLine a → Reads a ts → Reads b us
    → Reads (a ++ b) (ts ++ map (moved (length a)) us)

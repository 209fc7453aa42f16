-- What is written is read again.
use Rattle.std.specs.Prelude.{◌≡◌, ℕ, ◌<◌, ◌^◌, IsTrue, List, [], ◌∷◌, ◌++◌}
use Rattle.tg_lex.specs.declared.token.Token.{Token}
use Rattle.tg_lex.specs.Grammar.{Reads, is_word}
use Rattle.tg_lex.specs.Laws.{EndsInLine}
use Rattle.tg_grammar.specs.Seen.{Seen, seen}
use Rattle.tg_render.specs.Render.{render, lines}
use Rattle.tg_render.specs.Tokens.{name, numeral, joined, IsProper, AreProper}

-- the lexer finds these tokens in the bytes
abbrev pub HasTokens : List ℕ → List Seen → Type 0
HasTokens bytes ts = (tokens : List Token) × Reads bytes tokens × (seen bytes tokens ≡ ts)

abbrev pub AreAllProper : List (List Seen) → Type 0
AreAllProper [] = Unit {0}
AreAllProper (ts ∷ tss) = AreProper ts × AreAllProper tss

-- The text of proper tokens has these tokens, whatever stands beside what.
abbrev pub IsLexedBack : Type 0
IsLexedBack = (ts : List Seen) → AreProper ts → HasTokens (render ts) ts

-- So has the text of lines.
abbrev pub AreLinesLexedBack : Type 0
AreLinesLexedBack = (tss : List (List Seen)) → AreAllProper tss → HasTokens (lines tss) (joined tss)

-- The tokens of two texts with LF between them are those of the one and then those of the other.
abbrev pub TextsAreJoined : Type 0
TextsAreJoined = (a b : List ℕ) (ts us : List Seen) → HasTokens a ts → HasTokens b us → HasTokens (a ++ 10 ∷ b) (ts ++ us)

-- So are those of two texts of which the first ends in LF.
abbrev pub TextsFollow : Type 0
TextsFollow = (a b : List ℕ) (ts us : List Seen) → EndsInLine a → HasTokens a ts → HasTokens b us → HasTokens (a ++ b) (ts ++ us)

-- Two lists of proper tokens with one text are equal.
abbrev pub TellsTokens : Type 0
TellsTokens = (ts us : List Seen) → AreProper ts → AreProper us → render ts ≡ render us → ts ≡ us

-- A word is proper, and so is a numeral below 2^64.
abbrev pub WordsAreProper : Type 0
WordsAreProper = (text : List ℕ) → IsTrue (is_word text) → IsProper (name text)

abbrev pub NumeralsAreProper : Type 0
NumeralsAreProper = (n : ℕ) → n < 2 ^ 64 → IsProper (numeral n)

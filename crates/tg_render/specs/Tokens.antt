-- The tokens of version 1 of the language, and what is put together from them.
use Rattle.std.specs.Prelude.{◌≡◌, ℕ, ◌<◌, ◌^◌, true, IsTrue, List, [], ◌∷◌, ◌++◌, codes, decimal}
use Rattle.tg_lex.specs.declared.token.Kind.{Kind}
use Rattle.tg_lex.specs.declared.token.Kind.TheVariants.{Number}
use Rattle.tg_lex.specs.Grammar.{Spells, value, is_word}
use Rattle.tg_rules.specs.Rule.{has}
use Rattle.tg_grammar.specs.Kinds.{open_paren, close_paren, other_word}
use Rattle.tg_grammar.specs.Seen.{Seen, word_kind, number_kind, kind_of, value_of}
use Rattle.tg_grammar.specs.Words.{version_one, local_kinds}

-- a token that isn't a number
abbrev pub mark : ℕ → List ℕ → Seen
mark kind text = record { kind = kind; value = 0; text = text }

-- a word that may be reserved
abbrev pub name : List ℕ → Seen
name text = mark (word_kind version_one text) text

-- a number in decimal digits
abbrev pub numeral : ℕ → Seen
numeral n = record { kind = number_kind n; value = n; text = decimal n }

-- tokens in round brackets
abbrev pub enclosed : List Seen → List Seen
enclosed ts = mark open_paren (codes "(") ∷ (ts ++ mark close_paren (codes ")") ∷ [])

-- lists of tokens one behind another
abbrev pub joined : List (List Seen) → List Seen
joined [] = []
joined (ts ∷ tss) = ts ++ joined tss

-- the same with a token before each
abbrev pub continued : Seen → List (List Seen) → List Seen
continued t [] = []
continued t (ts ∷ tss) = t ∷ (ts ++ continued t tss)

-- the same with a token between two of them
abbrev pub divided : Seen → List (List Seen) → List Seen
divided t [] = []
divided t (ts ∷ tss) = ts ++ continued t tss

-- a head alone, or in brackets with its arguments
abbrev pub application : Seen → List (List Seen) → List Seen
application head [] = head ∷ []
application head (x ∷ xs) = enclosed (head ∷ (x ++ joined xs))

-- a token as a lexer and the grammar see its text
pub record IsProper (s : Seen) : Type 0 where
  pub sort : Kind
  pub spelled : Spells sort s.text
  pub fits : sort ≡ Number → value s.text < 2 ^ 64
  pub kinded : s.kind ≡ kind_of version_one sort s.text
  pub valued : s.value ≡ value_of sort s.text

abbrev pub AreProper : List Seen → Type 0
AreProper [] = Unit {0}
AreProper (s ∷ ss) = IsProper s × AreProper ss

-- a word that the grammar reads as a name
abbrev pub IsNameWord : List ℕ → Type 0
IsNameWord text = IsTrue (is_word text) × (has (other_word ∷ local_kinds) (word_kind version_one text) ≡ true)

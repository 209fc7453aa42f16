-- What the grammar sees of a token.
use Rattle.std.specs.Prelude.{ℕ, ◌+◌, Bool, true, ◌&&◌, ◌==◌, nat_lt, nat_le, if◌then◌else◌, List, [], ◌∷◌, length, map, codes}
use Rattle.std.specs.Str.{bytes_eq}
use Rattle.tg_tables.specs.Rows.{Entry}
use Rattle.tg_lex.specs.declared.token.Kind.{Kind}
use Rattle.tg_lex.specs.declared.token.Kind.TheVariants.{Word, TyVar, Number, Sym}
use Rattle.tg_lex.specs.declared.token.Token.{Token}
use Rattle.tg_lex.specs.Grammar.{value}
use Rattle.tg_lex.specs.Load.{is_any_of, text_of}
use Rattle.tg_grammar.specs.Kinds.{other_word, type_variable, zero_number, one_number, two_number, small_number, other_number}
use Rattle.tg_grammar.specs.Words.{version_one}

-- the value is that of a number, and 0 of other tokens
pub record Seen : Type 0 where
  pub kind : ℕ
  pub value : ℕ
  pub text : List ℕ

-- the words that have a kind of their own in an input, with their kinds
abbrev pub Vocabulary : Type 0
Vocabulary = List Entry

-- the names in a list have more bytes than this
abbrev pub are_longer : ℕ → List Entry → Bool
are_longer n [] = true
are_longer n (e ∷ es) = nat_lt n (length e.name) && are_longer n es

-- the code that a list has for a text, or the other one where it doesn't have the text
abbrev pub code_or : ℕ → List Entry → List ℕ → ℕ
code_or other [] text = other
code_or other (e ∷ es) text = if bytes_eq e.name text then e.code else code_or other es text

unfoldable pub word_kind : Vocabulary → List ℕ → ℕ
word_kind words text = code_or other_word words text

abbrev pub number_kind : ℕ → ℕ
number_kind n =
    if 0 == n then zero_number else if 1 == n then one_number else if 2 == n then two_number
    else if nat_le 3 n && nat_le n 8 then small_number else other_number

abbrev pub kind_of : Vocabulary → Kind → List ℕ → ℕ
kind_of words Word text = word_kind words text
kind_of words TyVar text = type_variable
kind_of words Number text = number_kind (value text)
kind_of words (Sym code) text = code

abbrev pub value_of : Kind → List ℕ → ℕ
value_of Word text = 0
value_of TyVar text = 0
value_of Number text = value text
value_of (Sym code) text = 0

abbrev pub seen_token : Vocabulary → List ℕ → Token → Seen
seen_token words bytes t = record {
  kind = kind_of words t.kind (text_of bytes t);
  value = value_of t.kind (text_of bytes t);
  text = text_of bytes t;
}

-- the tokens of the bytes as the grammar sees them, with these words
abbrev pub seen_with : Vocabulary → List ℕ → List Token → List Seen
seen_with words bytes tokens = map (seen_token words bytes) tokens

-- the same in version 1 of the language
abbrev pub seen : List ℕ → List Token → List Seen
seen bytes tokens = seen_with version_one bytes tokens

-- ---- the words that are counted in telling where a fault is

abbrev pub is_declaration : List ℕ → Bool
is_declaration = is_any_of
    (codes "datatype" ∷ codes "primrec" ∷ codes "definition" ∷ codes "program" ∷ codes "spec" ∷ codes "outcomes" ∷ codes "certificate" ∷ [])

abbrev pub declarations : List Seen → ℕ
declarations [] = 0
declarations (s ∷ ss) = (if is_declaration s.text then 1 else 0) + declarations ss

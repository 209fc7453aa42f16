-- Names that are taken, and words that may be names.
use Rattle.std.specs.Prelude.{ℕ, ◌≡◌, true, List, [], ◌∷◌, None}
use Rattle.tg_tables.specs.Lists.{reserved_words}
use Rattle.tg_lex.specs.Grammar.{is_word, code_in}
use Rattle.tg_accept.specs.Faults.{is_taken}

-- a word that isn't reserved
pub record IsName (x : List ℕ) : Type 0 where
  pub word : is_word x ≡ true
  pub free : code_in reserved_words x ≡ None

abbrev pub AreNames : List (List ℕ) → Type 0
AreNames [] = Unit {0}
AreNames (x ∷ xs) = IsName x × AreNames xs

-- both have the same names
abbrev pub HaveSameNames : List (List ℕ) → List (List ℕ) → Type 0
HaveSameNames xs ys = (x : List ℕ) → is_taken x xs ≡ is_taken x ys

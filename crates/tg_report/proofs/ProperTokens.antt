-- The tokens of texts are proper.
use Rattle.std.proofs.Common.{◌≡◌, ℕ, true, List, [], ◌∷◌, ◌++◌, inl, inr, refl}
use Rattle.std.specs.Prelude.{◌==◌, ◌&&◌, nat_le, codes}
use Rattle.std.proofs.lemmas.Bool.{cases_Bool}
use Rattle.tg_lex.specs.declared.token.Kind.TheVariants.{Word, Sym}
use Rattle.tg_lex.specs.Grammar.{is_word, code_in}
use Rattle.tg_tables.specs.Lists.{symbol_list}
use Rattle.tg_rules.specs.Rule.{has}
use Rattle.tg_rules.proofs.Heights.{by_rule}
use Rattle.std.specs.Prelude.{Some}
use Rattle.tg_grammar.specs.Kinds.{zero_number, one_number, two_number, small_number, other_number, open_paren, close_paren}
use Rattle.tg_grammar.specs.Seen.{Seen, number_kind, word_kind}
use Rattle.tg_grammar.specs.Words.{version_one}
use Rattle.tg_grammar.specs.Parts.{Part, Value}
use Rattle.tg_grammar.specs.Page.{page}
use Rattle.tg_grammar.specs.Reading.{IsText, kind}
use Rattle.tg_rules.specs.Texts.{Is}
use Rattle.tg_render.specs.Tokens.{mark, enclosed, IsProper, AreProper}

-- proper tokens that are a text of a part with this value
pub record IsPart (n : Part) (v : Value n) (ts : List Seen) : Type 0 where
  pub proper : AreProper ts
  pub read : IsText n v ts

-- what is a text of a part's rule is one of the part
pub made : (n : Part) (v : Value n) (ts : List Seen) → AreProper ts → Is kind IsText (page n) v ts → IsPart n v ts
made n v ts p r = record { proper = p; read = by_rule kind page n v ts r }

pub proper-append : (xs ys : List Seen) → AreProper xs → AreProper ys → AreProper (xs ++ ys)
proper-append [] ys p q = q
proper-append (x ∷ xs) ys (a, p) q = (a, proper-append xs ys p q)

pub symbol : (code : ℕ) (text : List ℕ) → code_in symbol_list text ≡ Some code → IsProper (mark code text)
symbol code text e = record { sort = Sym code; spelled = e; fits = λ wrong. absurd cc; kinded = refl; valued = refl }

pub keyword : (k : ℕ) (text : List ℕ) → is_word text ≡ true → k ≡ word_kind version_one text → IsProper (mark k text)
keyword k text w e = record { sort = Word; spelled = w; fits = λ wrong. absurd cc; kinded = e; valued = refl }

pub proper-enclosed : (ts : List Seen) → AreProper ts → AreProper (enclosed ts)
proper-enclosed ts p = (symbol open_paren (codes "(") refl, proper-append ts _ p (symbol close_paren (codes ")") refl, tt))

pub number_kinds : (n : ℕ) → has (zero_number ∷ one_number ∷ two_number ∷ small_number ∷ other_number ∷ []) (number_kind n) ≡ true
number_kinds n = elim (cases_Bool (0 == n)) [
  | inl a ↦ rw a refl
  | inr a ↦ elim (cases_Bool (1 == n)) [
    | inl b ↦ rw (a, b) refl
    | inr b ↦ elim (cases_Bool (2 == n)) [
      | inl c ↦ rw (a, b, c) refl
      | inr c ↦ elim (cases_Bool (nat_le 3 n && nat_le n 8)) [
        | inl d ↦ rw (a, b, c, d) refl
        | inr d ↦ rw (a, b, c, d) refl
      ]
    ]
  ]
]

-- The kind of a word, from the place where a table has it.
use Rattle.std.proofs.Common.{◌≡◌, ℕ, zero, suc, ◌<◌, ◌↔◌, ◌⊎◌, true, false, List, [], ◌∷◌, Option, Some, None, length, map, nat_lt, slice_get, get_or, refl, sym, ap, ◌∙◌, inl, inr, arith}
use Rattle.std.specs.Str.{bytes_eq}
use Rattle.std.proofs.lemmas.Bool.{cases_Bool}
use Rattle.std.proofs.lemmas.Slice.Eq.{bytes_eq-Decides}
use Rattle.tg_tables.specs.declared.row.Row.{Row}
use Rattle.tg_tables.specs.Rows.{Entry, entries_of, names}
use Rattle.tg_grammar.specs.Kinds.{other_word}
use Rattle.tg_grammar.specs.Seen.{are_longer, code_or, word_kind}

abbrev codes_in : List Entry → List ℕ
codes_in es = map (λ e. e.code) es

pub code_there : (rows : List Row) (at : ℕ) (d : Row) → at < length rows → slice_get (codes_in (entries_of rows)) at ≡ Some (get_or rows at d).code
code_there [] at d low = absurd (omega arith)
code_there (r ∷ rows) zero d low = refl
code_there (r ∷ rows) (suc at) d low = code_there rows at d (omega arith)

abbrev IsAt : List Entry → List ℕ → ℕ → Type 0
IsAt es text j = slice_get (names es) j ≡ Some text

-- a list has the text at its first place, whose code counts, or nowhere
abbrev Stands : List Entry → List ℕ → Type 0
Stands es text = ((j : ℕ) × IsAt es text j × (slice_get (codes_in es) j ≡ Some (code_or other_word es text)))
    ⊎ ((code_or other_word es text ≡ other_word) × ((j : ℕ) → ¬ IsAt es text j))

here : (e : Entry) (es : List Entry) (text : List ℕ) → bytes_eq e.name text ≡ true → Stands (e ∷ es) text
here e es text same = inl (0, ap Some ((bytes_eq-Decides e.name text).0 same), rw same refl)

further : (e : Entry) (es : List Entry) (text : List ℕ) → bytes_eq e.name text ≡ false → Stands es text → Stands (e ∷ es) text
further e es text other (inl (j, at, code)) = inl (suc j, at, rw other code)
further e es text other (inr (none, nowhere)) = inr (rw other none, not_here)
  where
    not_here : (j : ℕ) → ¬ IsAt (e ∷ es) text j
    not_here zero at =
        let name : e.name ≡ text = cc in
        let wrong : true ≡ false = sym ((bytes_eq-Decides e.name text).1 name) ∙ other in absurd cc
    not_here (suc j) at = nowhere j at

stands : (es : List Entry) (text : List ℕ) → Stands es text
stands [] text = inr (refl, nothing)
  where
    nothing : (j : ℕ) → ¬ IsAt [] text j
    nothing zero e = absurd cc
    nothing (suc j) e = absurd cc
stands (e ∷ es) text = elim (cases_Bool (bytes_eq e.name text)) [
  | inl same ↦ here e es text same
  | inr other ↦ further e es text other (stands es text)
]

-- the place that a look-up has found is the only one
abbrev Finds : List Entry → List ℕ → Option ℕ → Type 0
Finds es text found = (i : ℕ) → (found ≡ Some i) ↔ IsAt es text i

same_place : (found : Option ℕ) (i j : ℕ) → found ≡ Some i → found ≡ Some j → i ≡ j
same_place found i j e f = let both : Some i ≡ Some j = sym e ∙ f in cc

same_code : (o : Option ℕ) (c d : ℕ) → o ≡ Some c → o ≡ Some d → c ≡ d
same_code o c d e f = let both : Some c ≡ Some d = sym e ∙ f in cc

pub kind_found : (es : List Entry) (text : List ℕ) (found : Option ℕ) (i code : ℕ) → Finds es text found → found ≡ Some i → slice_get (codes_in es) i ≡ Some code
    → code ≡ word_kind es text
unfolding word_kind
kind_found es text found i code finds is there = go (stands es text)
  where
    go : Stands es text → code ≡ code_or other_word es text
    go (inl (j, at, first)) =
        let same : i ≡ j = same_place found i j is ((finds j).1 at) in
        same_code (slice_get (codes_in es) j) code (code_or other_word es text) (ap (slice_get (codes_in es)) (sym same) ∙ there) first
    go (inr (none, nowhere)) = absurd (nowhere i ((finds i).0 is))

pub kind_of_other : (es : List Entry) (text : List ℕ) (found : Option ℕ) → Finds es text found → found ≡ None → other_word ≡ word_kind es text
unfolding word_kind
kind_of_other es text found finds is = go (stands es text)
  where
    go : Stands es text → other_word ≡ code_or other_word es text
    go (inl (j, at, first)) = let wrong : Some j ≡ None = sym ((finds j).1 at) ∙ is in absurd cc
    go (inr (none, nowhere)) = sym none

-- a word that is too short for the list
pub short_word : (es : List Entry) (text : List ℕ) → are_longer 1 es ≡ true → length text ≡ 1 → other_word ≡ word_kind es text
unfolding word_kind
short_word [] text longer short = refl
short_word (e ∷ es) text longer short = elim (cases_Bool (nat_lt 1 (length e.name))) [
  | inl long ↦ elim (cases_Bool (bytes_eq e.name text)) [
    | inl same ↦
        let name : e.name ≡ text = (bytes_eq-Decides e.name text).0 same in
        let wrong : true ≡ false = sym long ∙ ap (λ n. nat_lt 1 (length n)) name ∙ ap (nat_lt 1) short in absurd cc
    | inr other ↦ rw other (short_word es text (rw long at longer) short)
  ]
  | inr not_long ↦ let wrong : false ≡ true = rw not_long at longer in absurd cc
]

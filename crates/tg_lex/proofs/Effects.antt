-- What a token does to the counters, by its kind.
use Rattle.std.proofs.Common.{◌≡◌, ℕ, Bool, true, false, ◌||◌, ◌==◌, cond, List, [], ◌∷◌, Option, Some, inl, inr, refl, sym, ap, subst, ◌∙◌}
use Rattle.std.proofs.lemmas.Bool.{cases_Bool, and_parts, cond-false, eq-eqb}
use Rattle.std.specs.List.{list_all, AllByRecursion}
use Rattle.std.specs.Prelude.{codes}
use Rattle.std.specs.Str.{bytes_eq}
use Rattle.tg_tables.specs.Rows.{Entry}
use Rattle.tg_tables.specs.Lists.{symbol_list}
use Rattle.tg_lex.specs.declared.token.Kind.{Kind}
use Rattle.tg_lex.specs.declared.token.Kind.TheVariants.{Word, TyVar, Number, Sym}
use Rattle.tg_lex.specs.declared.load.Effect.TheVariants.{Opens, Closes, Resets, Counts, Nothing}
use Rattle.tg_lex.specs.Bytes.{is_letter, is_digit}
use Rattle.tg_lex.specs.Grammar.{code_in, Spells}
use Rattle.tg_lex.specs.Load.{is_any_of, is_opening, is_closing, is_dividing, is_counted_symbol, is_counted_word, effect, symbol_effect, word_effect}
use Rattle.tg_lex.proofs.Texts.{plain, plain_parts, is_name, FirstOf, first_of, nothing_spelled, Alike, alike, clash}

-- ---- symbols

the_code : {m n : ℕ} → let some : ℕ → Option ℕ = λ k. Some k in some m ≡ some n → m ≡ n
the_code e = cc

in_table_of : (P : List ℕ → ℕ → Type 0) (es : List Entry) (text : List ℕ) (code : ℕ) → AllByRecursion (λ e. P e.name e.code) es → code_in es text ≡ Some code → P text code
in_table_of P [] text code all found = absurd cc
in_table_of P (e ∷ es) text code all found =
    elim (cases_Bool (bytes_eq e.name text)) [
      | inl same ↦
          let codes_same : e.code ≡ code = the_code (rw same at found) in
          subst (λ c. P text c) codes_same (subst (λ t. P t e.code) (is_name e.name text same) all.0)
      | inr other ↦ in_table_of P es text code all.1 (rw other at found)
    ]

pub at_symbol : (text : List ℕ) (code : ℕ) → code_in symbol_list text ≡ Some code → symbol_effect code ≡ effect text
unfolding effect
at_symbol text code found =
    in_table_of (λ t c. symbol_effect c ≡ effect t) symbol_list text code
    (refl, (refl, (refl, (refl, (refl, (refl, (refl, (refl, (refl, (refl, (refl, (refl, (refl, (refl, (refl, (refl, (refl, (refl, (refl, (refl, (refl, (refl, (refl, tt))))))))))))))))))))))) found

-- ---- other tokens

none_of : (test : List ℕ → Bool) (names : List (List ℕ)) (text : List ℕ) → list_all test names ≡ true → test text ≡ false → is_any_of names text ≡ false
none_of test [] text all fails = refl
none_of test (w ∷ ws) text all fails =
    let parts = and_parts (test w) (list_all test ws) all in
    elim (cases_Bool (bytes_eq text w)) [
      | inl same ↦ absurd (clash (test text) fails (ap test (is_name text w same) ∙ parts.0))
      | inr other ↦ rw other (none_of test ws text parts.1 fails)
    ]

-- no symbol begins as a word, a type variable or a number does
others : (kind : Kind) (b : ℕ) → FirstOf kind b → ((code : ℕ) → kind ≡ Sym code → ⊥) → plain (b ∷ []) ≡ true → ⊥
others Word b first no_symbol e = clash (is_letter b) (plain_parts b e).no_letter first
others TyVar b first no_symbol e = clash (b == 39) (plain_parts b e).no_quote (eq-eqb b 39 first)
others Number b first no_symbol e = clash (is_digit b) (plain_parts b e).no_digit first
others (Sym code) b first no_symbol e = no_symbol code refl

not_plain : (kind : Kind) (b : ℕ) (t : List ℕ) → FirstOf kind b → ((code : ℕ) → kind ≡ Sym code → ⊥) → plain (b ∷ t) ≡ false
not_plain kind b t first no_symbol =
    elim (cases_Bool (plain (b ∷ t))) [
      | inr e ↦ e
      | inl e ↦ absurd (others kind b first no_symbol e)
    ]

chain : (a b c d e : Bool) → a ≡ false → b ≡ false → c ≡ false → d ≡ false → cond a Opens (cond b Closes (cond c Resets (cond (d || e) Counts Nothing))) ≡ cond e Counts Nothing
chain false false false false e p q r s = refl
chain true b c d e p q r s = absurd cc
chain a true c d e p q r s = absurd cc
chain a b true d e p q r s = absurd cc
chain a b c true e p q r s = absurd cc

no_symbol_effect : (text : List ℕ) → plain text ≡ false → effect text ≡ word_effect text
unfolding effect
no_symbol_effect text fails =
    chain (is_opening text) (is_closing text) (is_dividing text) (is_counted_symbol text) (is_counted_word text)
    (none_of plain (codes "(" ∷ codes "{" ∷ codes "[" ∷ []) text refl fails)
    (none_of plain (codes ")" ∷ codes "}" ∷ codes "]" ∷ []) text refl fails)
    (none_of plain (codes "," ∷ codes ";" ∷ []) text refl fails)
    (none_of plain (codes "~" ∷ codes "-->" ∷ codes "|" ∷ codes "&" ∷ codes "=" ∷ codes "<" ∷ codes "<=" ∷ codes "+" ∷ codes "-" ∷ codes "*" ∷ []) text refl fails)

pub at_word : (text : List ℕ) → Spells Word text → word_effect text ≡ effect text
at_word [] s = absurd (nothing_spelled Word s)
at_word (b ∷ t) s = sym (no_symbol_effect (b ∷ t) (not_plain Word b t (first_of Word b t s) (λ code (e : Word ≡ Sym code). cc)))

abbrev begins_with_letter : List ℕ → Bool
begins_with_letter [] = false
begins_with_letter (b ∷ t) = is_letter b

no_word_effect : (text : List ℕ) → begins_with_letter text ≡ false → word_effect text ≡ Nothing
no_word_effect text fails =
    cond-false (is_counted_word text) Counts Nothing
    (none_of begins_with_letter (codes "div" ∷ codes "mod" ∷ codes "if" ∷ codes "let" ∷ codes "case" ∷ []) text refl fails)

no_letter : (kind : Kind) (b : ℕ) → FirstOf kind b → (Alike Word kind → ⊥) → is_letter b ≡ false
no_letter kind b first apart =
    elim (cases_Bool (is_letter b)) [
      | inr e ↦ e
      | inl e ↦ absurd (apart (alike Word kind b e first))
    ]

pub at_number : (text : List ℕ) → Spells Number text → Nothing ≡ effect text
at_number [] s = absurd (nothing_spelled Number s)
at_number (b ∷ t) s =
    let first = first_of Number b t s in
    sym (no_symbol_effect (b ∷ t) (not_plain Number b t first (λ code (e : Number ≡ Sym code). cc)) ∙ no_word_effect (b ∷ t) (no_letter Number b first (λ x. x)))

pub at_variable : (text : List ℕ) → Spells TyVar text → Nothing ≡ effect text
at_variable [] s = absurd (nothing_spelled TyVar s)
at_variable (b ∷ t) s =
    let first = first_of TyVar b t s in
    sym (no_symbol_effect (b ∷ t) (not_plain TyVar b t first (λ code (e : TyVar ≡ Sym code). cc)) ∙ no_word_effect (b ∷ t) (no_letter TyVar b first (λ x. x)))

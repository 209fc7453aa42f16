-- What tokens begin with.
use Rattle.std.proofs.Common.{◌≡◌, ℕ, ◌≤◌, Bool, true, false, not, ◌&&◌, ◌||◌, ◌==◌, cond, List, [], ◌∷◌, length, Some, None, inl, inr, refl, ap, subst, arith}
use Rattle.std.proofs.lemmas.Bool.{and_parts, or_parts, not-true, eqb-true, cases_Bool, leb-true, eq-eqb, ne_eqb, and_left}
use Rattle.std.proofs.Math.Bool.{and-true, and-false}
use Rattle.std.proofs.lemmas.Bool.Decides.{nat_tests}
use Rattle.std.specs.List.{list_all}
use Rattle.std.specs.Prelude.{nat_le, nat_eq}
use Rattle.std.specs.Str.{bytes_eq}
use Rattle.tg_tables.specs.Rows.{Entry}
use Rattle.tg_tables.specs.Lists.{symbol_list}
use Rattle.tg_lex.specs.declared.token.Kind.{Kind}
use Rattle.tg_lex.specs.declared.token.Kind.TheVariants.{Word, TyVar, Number, Sym}
use Rattle.tg_lex.specs.Bytes.{is_blank, is_letter, is_digit, is_name_byte}
use Rattle.tg_lex.specs.Grammar.{is_word, code_in, Spells, opens}
use Rattle.tg_lex.specs.Scan.{one_byte}

letter_range : (b : ℕ) → is_letter b ≡ true → (65 ≤ b) × (b ≤ 122)
letter_range b e = grind (arith, nat_tests)

digit_range : (b : ℕ) → is_digit b ≡ true → (48 ≤ b) × (b ≤ 57)
digit_range b e = grind (arith, nat_tests)

blank_range : (b : ℕ) → is_blank b ≡ true → b ≤ 32
blank_range b e = grind (arith, nat_tests)

-- a text that begins as no word, number, type variable or separator does
abbrev pub plain : List ℕ → Bool
plain [] = false
plain (b ∷ t) = not (is_letter b || is_digit b || b == 39 || is_blank b)

symbols_plain : list_all (λ e. plain e.name) symbol_list ≡ true
symbols_plain = refl

symbols_short : list_all (λ e. nat_le (length e.name) 3) symbol_list ≡ true
symbols_short = refl

pub is_name : (a b : List ℕ) → bytes_eq a b ≡ true → a ≡ b
is_name [] [] e = refl
is_name [] (y ∷ b) e = absurd cc
is_name (x ∷ a) [] e = absurd cc
is_name (x ∷ a) (y ∷ b) e =
    let parts = and_parts (nat_eq x y) (bytes_eq a b) e in
    let first : x ≡ y = eqb-true x y parts.0 in
    let rest : a ≡ b = is_name a b parts.1 in
    cc

-- a test of each name of a table is a test of each text that has a code in it
pub in_table : (test : List ℕ → Bool) (es : List Entry) (text : List ℕ) (code : ℕ) → list_all (λ e. test e.name) es ≡ true → code_in es text ≡ Some code → test text ≡ true
in_table test [] text code all found = absurd cc
in_table test (e ∷ es) text code all found =
    let parts = and_parts (test e.name) (list_all (λ x. test x.name) es) all in
    elim (cases_Bool (bytes_eq e.name text)) [
      | inl same ↦ subst (λ t. test t ≡ true) (is_name e.name text same) parts.0
      | inr other ↦ in_table test es text code parts.1 (rw other at found)
    ]

-- which bytes begin a text of a kind
abbrev pub FirstOf : Kind → ℕ → Type 0
FirstOf Word b = is_letter b ≡ true
FirstOf TyVar b = b ≡ 39
FirstOf Number b = is_digit b ≡ true
FirstOf (Sym code) b = plain (b ∷ []) ≡ true

pub first_of : (kind : Kind) (b : ℕ) (t : List ℕ) → Spells kind (b ∷ t) → FirstOf kind b
first_of Word b t s = (and_parts (is_letter b) (list_all is_name_byte t) s).0
first_of TyVar b t s = eqb-true b 39 (and_parts (b == 39) (is_word t) s).0
first_of Number b t s = (and_parts (is_digit b) (list_all is_digit t) s).0
first_of (Sym code) b t s = in_table plain symbol_list (b ∷ t) code symbols_plain s

pub nothing_spelled : (kind : Kind) → Spells kind [] → ⊥
nothing_spelled Word s = cc
nothing_spelled TyVar s = cc
nothing_spelled Number s = cc
nothing_spelled (Sym code) s = cc

pub record IsPlain (b : ℕ) : Type 0 where
  pub no_letter : is_letter b ≡ false
  pub no_digit : is_digit b ≡ false
  pub no_quote : (b == 39) ≡ false
  pub no_blank : is_blank b ≡ false

pub plain_parts : (b : ℕ) → plain (b ∷ []) ≡ true → IsPlain b
plain_parts b e =
    let all = or_parts (is_letter b || is_digit b || b == 39) (is_blank b) (not-true (is_letter b || is_digit b || b == 39 || is_blank b) e) in
    let three = or_parts (is_letter b || is_digit b) (b == 39) all.0 in
    let two = or_parts (is_letter b) (is_digit b) three.0 in
    record { no_letter = two.0; no_digit = two.1; no_quote = three.1; no_blank = all.1 }

pub clash : (b : Bool) → b ≡ false → b ≡ true → ⊥
clash b e f = cc

-- one byte begins texts of one kind only
abbrev pub Alike : Kind → Kind → Type 0
Alike Word Word = Unit {0}
Alike TyVar TyVar = Unit {0}
Alike Number Number = Unit {0}
Alike (Sym c) (Sym d) = Unit {0}
Alike k l = ⊥

pub alike : (k l : Kind) (b : ℕ) → FirstOf k b → FirstOf l b → Alike k l
alike Word Word b p q = tt
alike Word TyVar b p q = omega (arith, letter_range b p)
alike Word Number b p q = omega (arith, letter_range b p, digit_range b q)
alike Word (Sym d) b p q = clash (is_letter b) (plain_parts b q).no_letter p
alike TyVar Word b p q = omega (arith, letter_range b q)
alike TyVar TyVar b p q = tt
alike TyVar Number b p q = omega (arith, digit_range b q)
alike TyVar (Sym d) b p q = clash (b == 39) (plain_parts b q).no_quote (eq-eqb b 39 p)
alike Number Word b p q = omega (arith, letter_range b q, digit_range b p)
alike Number TyVar b p q = omega (arith, digit_range b p)
alike Number Number b p q = tt
alike Number (Sym d) b p q = clash (is_digit b) (plain_parts b q).no_digit p
alike (Sym c) Word b p q = clash (is_letter b) (plain_parts b p).no_letter q
alike (Sym c) TyVar b p q = clash (b == 39) (plain_parts b p).no_quote (eq-eqb b 39 q)
alike (Sym c) Number b p q = clash (is_digit b) (plain_parts b p).no_digit q
alike (Sym c) (Sym d) b p q = tt

-- no token begins with a separator, and of the tokens only symbols begin with `(`
pub not_blank : (kind : Kind) (b : ℕ) → FirstOf kind b → is_blank b ≡ true → ⊥
not_blank Word b p e = omega (arith, letter_range b p, blank_range b e)
not_blank TyVar b p e = omega (arith, blank_range b e)
not_blank Number b p e = omega (arith, digit_range b p, blank_range b e)
not_blank (Sym code) b p e = clash (is_blank b) (plain_parts b p).no_blank e

pub not_open : (b : ℕ) (bs : List ℕ) → (b ≡ 40 → ⊥) → opens (b ∷ bs) ≡ false
not_open b [] ne = refl
not_open b (c ∷ bs) ne = and_left (b == 40) (c == 42) (ne_eqb b 40 ne)

pub open_first : (b : ℕ) (bs : List ℕ) → opens (b ∷ bs) ≡ true → b ≡ 40
open_first b [] e = absurd cc
open_first b (c ∷ bs) e = eqb-true b 40 (and_parts (b == 40) (c == 42) e).0

pub one_kind : (k l : Kind) (t : List ℕ) → Spells k t → Spells l t → k ≡ l
one_kind k l [] p q = absurd (nothing_spelled k p)
one_kind Word Word (b ∷ t) p q = refl
one_kind TyVar TyVar (b ∷ t) p q = refl
one_kind Number Number (b ∷ t) p q = refl
one_kind (Sym c) (Sym d) (b ∷ t) p q = let same : c ≡ d = cc in ap Sym same
one_kind Word TyVar (b ∷ t) p q = absurd (alike Word TyVar b (first_of Word b t p) (first_of TyVar b t q))
one_kind Word Number (b ∷ t) p q = absurd (alike Word Number b (first_of Word b t p) (first_of Number b t q))
one_kind Word (Sym d) (b ∷ t) p q = absurd (alike Word (Sym d) b (first_of Word b t p) (first_of (Sym d) b t q))
one_kind TyVar Word (b ∷ t) p q = absurd (alike TyVar Word b (first_of TyVar b t p) (first_of Word b t q))
one_kind TyVar Number (b ∷ t) p q = absurd (alike TyVar Number b (first_of TyVar b t p) (first_of Number b t q))
one_kind TyVar (Sym d) (b ∷ t) p q = absurd (alike TyVar (Sym d) b (first_of TyVar b t p) (first_of (Sym d) b t q))
one_kind Number Word (b ∷ t) p q = absurd (alike Number Word b (first_of Number b t p) (first_of Word b t q))
one_kind Number TyVar (b ∷ t) p q = absurd (alike Number TyVar b (first_of Number b t p) (first_of TyVar b t q))
one_kind Number (Sym d) (b ∷ t) p q = absurd (alike Number (Sym d) b (first_of Number b t p) (first_of (Sym d) b t q))
one_kind (Sym c) Word (b ∷ t) p q = absurd (alike (Sym c) Word b (first_of (Sym c) b t p) (first_of Word b t q))
one_kind (Sym c) TyVar (b ∷ t) p q = absurd (alike (Sym c) TyVar b (first_of (Sym c) b t p) (first_of TyVar b t q))
one_kind (Sym c) Number (b ∷ t) p q = absurd (alike (Sym c) Number b (first_of (Sym c) b t p) (first_of Number b t q))

pub short : (text : List ℕ) (code : ℕ) → code_in symbol_list text ≡ Some code → length text ≤ 3
short text code s = leb-true (length text) 3 (in_table (λ t. nat_le (length t) 3) symbol_list text code symbols_short s)

pub code_one : (a : ℕ) → code_in symbol_list (a ∷ []) ≡ one_byte a
code_one a = simp (and-true, and-false)

pub code_two : (a b : ℕ) → code_in symbol_list (a ∷ b ∷ []) ≡ cond (58 == a && 58 == b) (Some 21) (cond (60 == a && 61 == b) (Some 12) (cond (61 == a && 62 == b) (Some 20) None))
code_two a b = simp (and-true, and-false)

pub code_three : (a b c : ℕ) → code_in symbol_list (a ∷ b ∷ c ∷ []) ≡ cond (45 == a && (45 == b && 62 == c)) (Some 19) None
code_three a b c = simp (and-true, and-false)

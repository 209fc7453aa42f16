-- Which bytes tokens have behind their first one, and which end a token.
use Rattle.std.proofs.Common.{◌≡◌, ℕ, Bool, true, false, not, ◌&&◌, ◌||◌, ◌==◌, List, [], ◌∷◌, Some, inl, inr, refl, ap, subst}
use Rattle.std.specs.Prelude.{nat_eq}
use Rattle.std.specs.List.{list_all}
use Rattle.std.specs.Str.{bytes_eq}
use Rattle.std.proofs.lemmas.Bool.{and_parts, not-true, eqb-true, cases_Bool}
use Rattle.tg_tables.specs.Rows.{Entry}
use Rattle.tg_tables.specs.Lists.{symbol_list}
use Rattle.tg_lex.specs.declared.token.Kind.{Kind}
use Rattle.tg_lex.specs.declared.token.Kind.TheVariants.{Word, TyVar, Number, Sym}
use Rattle.tg_lex.specs.Bytes.{is_letter, is_digit, is_name_byte}
use Rattle.tg_lex.specs.Grammar.{is_word, code_in, Spells, opens}
use Rattle.tg_lex.proofs.Texts.{is_name, first_of, nothing_spelled, not_open, clash}
use Rattle.tg_rules.specs.Rule.{has}
use Rattle.tg_render.specs.Render.{last_or, opening, closing}

-- a test of each name of a table is a test of each text that has a code in it
in_table : (test : List ℕ → Bool) (es : List Entry) (text : List ℕ) (code : ℕ) → list_all (λ e. test e.name) es ≡ true
    → code_in es text ≡ Some code → test text ≡ true
in_table test [] text code all found = absurd cc
in_table test (e ∷ es) text code all found =
    let parts = and_parts (test e.name) (list_all (λ x. test x.name) es) all in
    elim (cases_Bool (bytes_eq e.name text)) [
      | inl same ↦ subst (λ t. test t ≡ true) (is_name e.name text same) parts.0
      | inr other ↦ in_table test es text code parts.1 (rw other at found)
    ]

-- what holds of each of some numbers holds of a number among them
abbrev AllHave : (ℕ → Type 0) → List ℕ → Type 0
AllHave P [] = Unit {0}
AllHave P (k ∷ ks) = P k × AllHave P ks

among : (P : ℕ → Type 0) (ks : List ℕ) (b : ℕ) → has ks b ≡ true → AllHave P ks → P b
among P [] b h all = absurd cc
among P (k ∷ ks) b h all =
    elim (cases_Bool (nat_eq k b)) [
      | inl same ↦ subst P (eqb-true k b same) all.0
      | inr other ↦ among P ks b (rw other at h) all.1
    ]

-- ---- the bytes behind the first one of a token

abbrev pub is_inner : ℕ → Bool
is_inner b = is_name_byte b || (b == 45 || (b == 62 || (b == 58 || b == 61)))

tail : List ℕ → List ℕ
tail [] = []
tail (b ∷ bs) = bs

symbols_inner : list_all (λ e. list_all is_inner (tail e.name)) symbol_list ≡ true
unfolding tail
symbols_inner = refl

inner_name : (b : ℕ) → is_name_byte b ≡ true → is_inner b ≡ true
inner_name b e = rw e refl

inner_digit : (b : ℕ) → is_digit b ≡ true → is_inner b ≡ true
inner_digit b e = elim (cases_Bool (is_letter b)) [
  | inl letter ↦ rw letter refl
  | inr other ↦ rw (other, e) refl
]

inner_letter : (b : ℕ) → is_letter b ≡ true → is_inner b ≡ true
inner_letter b e = rw e refl

both_true : (x y : Bool) → x ≡ true → y ≡ true → (x && y) ≡ true
both_true x y e f = rw (e, f) refl

all_inner : (test : ℕ → Bool) → ((b : ℕ) → test b ≡ true → is_inner b ≡ true) → (bs : List ℕ) → list_all test bs ≡ true → list_all is_inner bs ≡ true
all_inner test one [] e = refl
all_inner test one (b ∷ bs) e =
    let parts = and_parts (test b) (list_all test bs) e in
    both_true (is_inner b) (list_all is_inner bs) (one b parts.0) (all_inner test one bs parts.1)

word_inner : (bs : List ℕ) → is_word bs ≡ true → list_all is_inner bs ≡ true
word_inner [] e = refl
word_inner (b ∷ bs) e =
    let parts = and_parts (is_letter b) (list_all is_name_byte bs) e in
    both_true (is_inner b) (list_all is_inner bs) (inner_letter b parts.0) (all_inner is_name_byte inner_name bs parts.1)

pub rest_inner : (kind : Kind) (b : ℕ) (bs : List ℕ) → Spells kind (b ∷ bs) → list_all is_inner bs ≡ true
unfolding tail
rest_inner Word b bs s = all_inner is_name_byte inner_name bs (and_parts (is_letter b) (list_all is_name_byte bs) s).1
rest_inner TyVar b bs s = word_inner bs (and_parts (b == 39) (is_word bs) s).1
rest_inner Number b bs s = all_inner is_digit inner_digit bs (and_parts (is_digit b) (list_all is_digit bs) s).1
rest_inner (Sym code) b bs s = in_table (λ t. list_all is_inner (tail t)) symbol_list (b ∷ bs) code symbols_inner s

-- ---- the bytes that end a token

pub closing_ends : (b : ℕ) → has closing b ≡ true → (is_inner b ≡ false) × ((b == 42) ≡ false)
closing_ends b h =
    among (λ c. (is_inner c ≡ false) × ((c == 42) ≡ false)) closing b h
    ((refl, refl), ((refl, refl), ((refl, refl), ((refl, refl), ((refl, refl), ((refl, refl), tt))))))

record IsAlone (b : ℕ) : Type 0 where
  no_letter : is_letter b ≡ false
  no_digit : is_digit b ≡ false
  no_quote : (b == 39) ≡ false
  no_inner : is_inner b ≡ false

opening_alone : (b : ℕ) → has opening b ≡ true → IsAlone b
opening_alone b h =
    let one : (c : ℕ) → is_letter c ≡ false → is_digit c ≡ false → (c == 39) ≡ false → is_inner c ≡ false → IsAlone c =
    λ c p q r s. record { no_letter = p; no_digit = q; no_quote = r; no_inner = s } in
    among IsAlone opening b h (
      one 10 refl refl refl refl,
      (
        one 40 refl refl refl refl,
        (
          one 91 refl refl refl refl,
          (
            one 123 refl refl refl refl,
            (one 33 refl refl refl refl, (one 63 refl refl refl refl, tt)),
          ),
        ),
      ),
    )

-- a symbol that begins with an opening byte is this byte
begins_alone : List ℕ → Bool
begins_alone [] = true
begins_alone (b ∷ []) = true
begins_alone (b ∷ c ∷ bs) = not (has opening b)

symbols_alone : list_all (λ e. begins_alone e.name) symbol_list ≡ true
unfolding begins_alone
symbols_alone = refl

pub not_two : (kind : Kind) (b c : ℕ) (bs : List ℕ) → has opening b ≡ true → Spells kind (b ∷ c ∷ bs) → ⊥
unfolding begins_alone
not_two Word b c bs h s = clash (is_letter b) (opening_alone b h).no_letter (first_of Word b (c ∷ bs) s)
not_two TyVar b c bs h s = clash (b == 39) (opening_alone b h).no_quote (and_parts (b == 39) (is_word (c ∷ bs)) s).0
not_two Number b c bs h s = clash (is_digit b) (opening_alone b h).no_digit (first_of Number b (c ∷ bs) s)
not_two (Sym code) b c bs h s =
    clash (has opening b) (not-true (has opening b) (in_table begins_alone symbol_list (b ∷ c ∷ bs) code symbols_alone s)) h

last_inner : (b : ℕ) (bs : List ℕ) → is_inner b ≡ true → list_all is_inner bs ≡ true → is_inner (last_or b bs) ≡ true
last_inner b [] e all = e
last_inner b (c ∷ bs) e all = let parts = and_parts (is_inner c) (list_all is_inner bs) all in last_inner c bs parts.0 parts.1

-- so a token that ends in an opening byte is this byte
pub single : (kind : Kind) (text : List ℕ) (before : ℕ) → Spells kind text → has opening (last_or before text) ≡ true → text ≡ last_or before text ∷ []
single kind [] before s h = absurd (nothing_spelled kind s)
single kind (b ∷ []) before s h = refl
single kind (b ∷ c ∷ bs) before s h =
    let parts = and_parts (is_inner c) (list_all is_inner bs) (rest_inner kind b (c ∷ bs) s) in
    absurd (clash (is_inner (last_or c bs)) (opening_alone (last_or c bs) h).no_inner (last_inner c bs parts.0 parts.1))

-- ---- comments

symbols_open_none : list_all (λ e. not (opens e.name)) symbol_list ≡ true
symbols_open_none = refl

pub opens_none : (kind : Kind) (b c : ℕ) (bs : List ℕ) → Spells kind (b ∷ c ∷ bs) → opens (b ∷ c ∷ bs) ≡ false
opens_none Word b c bs s = not_open b (c ∷ bs) (λ e. clash (is_letter b) (ap is_letter e) (first_of Word b (c ∷ bs) s))
opens_none TyVar b c bs s = not_open b (c ∷ bs) (λ e. clash (b == 39) (ap (λ n. n == 39) e) (and_parts (b == 39) (is_word (c ∷ bs)) s).0)
opens_none Number b c bs s = not_open b (c ∷ bs) (λ e. clash (is_digit b) (ap is_digit e) (first_of Number b (c ∷ bs) s))
opens_none (Sym code) b c bs s = not-true (opens (b ∷ c ∷ bs)) (in_table (λ t. not (opens t)) symbol_list (b ∷ c ∷ bs) code symbols_open_none s)

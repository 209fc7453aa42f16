-- The tokens of two texts with LF between them, part by part.
use Rattle.std.proofs.Common.{◌≡◌, ℕ, zero, suc, ◌+◌, ◌-◌, ◌^◌, ◌<◌, ◌≤◌, Bool, true, false, not, ◌&&◌, ◌==◌, List, [], ◌∷◌, ◌++◌, length, map, take, drop, Option, Some, None, inl, inr, refl, sym, ap, subst, ◌∙◌, arith, length-append, length-drop}
use Rattle.std.specs.Prelude.{if◌then◌else◌}
use Rattle.std.specs.List.{list_all}
use Rattle.std.proofs.lemmas.Bool.{cases_Bool, and_parts, eqb-true}
use Rattle.tg_tables.specs.Lists.{symbol_list}
use Rattle.tg_lex.specs.declared.token.Kind.{Kind}
use Rattle.tg_lex.specs.declared.token.Kind.TheVariants.{Word, TyVar, Number, Sym}
use Rattle.tg_lex.specs.declared.part.Part.{Part}
use Rattle.tg_lex.specs.declared.part.Part.TheVariants as parts
use Rattle.tg_lex.specs.Bytes.{is_letter, is_digit, is_name_byte}
use Rattle.tg_lex.specs.Grammar.{is_word, Spells, value, opens, closes, after_open, after_comment, Stands, size_of, total, BeginsWith, token, tokens_from}
use Rattle.tg_lex.specs.Laws.{moved, ReadingsJoin}
use Rattle.tg_lex.proofs.Texts.{in_table, clash}

-- ---- lists

pub drop_on : (n : ℕ) (xs ys : List ℕ) → n ≤ length xs → drop n (xs ++ ys) ≡ drop n xs ++ ys
drop_on zero xs ys h = refl
drop_on (suc n) [] ys h = absurd (omega (arith, h))
drop_on (suc n) (x ∷ xs) ys h = drop_on n xs ys (omega (arith, h))

pub take_on : (n : ℕ) (xs ys : List ℕ) → n ≤ length xs → take n (xs ++ ys) ≡ take n xs
take_on zero xs ys h = refl
take_on (suc n) [] ys h = absurd (omega (arith, h))
take_on (suc n) (x ∷ xs) ys h = ap (λ l. x ∷ l) (take_on n xs ys (omega (arith, h)))

-- ---- comments go on as they did

neither : (b : Bool) → (b && false) ≡ false
neither true = refl
neither false = refl

opens_on : (bytes r : List ℕ) → opens (bytes ++ 10 ∷ r) ≡ opens bytes
opens_on [] [] = refl
opens_on [] (c ∷ r) = refl
opens_on (b ∷ []) r = neither (b == 40)
opens_on (b ∷ c ∷ bytes) r = refl

closes_on : (bytes r : List ℕ) → closes (bytes ++ 10 ∷ r) ≡ closes bytes
closes_on [] [] = refl
closes_on [] (c ∷ r) = refl
closes_on (b ∷ []) r = neither (b == 42)
closes_on (b ∷ c ∷ bytes) r = refl

abbrev pub ways : Bool → Bool → Option (List ℕ) → Option (List ℕ) → Option (List ℕ) → Option (List ℕ)
ways o c x y z = elim o [ true ↦ x | false ↦ elim c [ true ↦ y | false ↦ z ] ]

pub each_way : (o c : Bool) (x y z x' y' z' : Option (List ℕ)) (rest rest' : List ℕ) → (x ≡ Some rest → x' ≡ Some rest')
    → (y ≡ Some rest → y' ≡ Some rest')
    → (z ≡ Some rest → z' ≡ Some rest') → ways o c x y z ≡ Some rest → ways o c x' y' z' ≡ Some rest'
each_way true c x y z x' y' z' rest rest' f g h e = f e
each_way false true x y z x' y' z' rest rest' f g h e = g e
each_way false false x y z x' y' z' rest rest' f g h e = h e

-- where a comment ends within the bytes it ends there
open_on : (second : Bool) (depth : ℕ) (bytes r rest : List ℕ) → after_open second depth bytes ≡ Some rest
    → after_open second depth (bytes ++ 10 ∷ r) ≡ Some (rest ++ 10 ∷ r)
open_on second depth [] r rest e = absurd cc
open_on true zero (b ∷ bytes) r rest e = let same : bytes ≡ rest = cc in ap (λ l. Some (l ++ 10 ∷ r)) same
open_on true (suc depth) (b ∷ bytes) r rest e = open_on false (suc depth) bytes r rest e
open_on false depth (b ∷ bytes) r rest e =
    let more = bytes ++ 10 ∷ r in
    (λ i. ways (opens_on (b ∷ bytes) r i) (closes_on (b ∷ bytes) r i) (after_open true (suc depth) more)
    (after_open true (depth - 1) more) (after_open false depth more))
    ∙ each_way (opens (b ∷ bytes)) (closes (b ∷ bytes)) (after_open true (suc depth) bytes) (after_open true (depth - 1) bytes)
    (after_open false depth bytes)
    (after_open true (suc depth) more) (after_open true (depth - 1) more) (after_open false depth more) rest (rest ++ 10 ∷ r)
    (open_on true (suc depth) bytes r rest) (open_on true (depth - 1) bytes r rest) (open_on false depth bytes r rest) e

comment_on : (bytes r rest : List ℕ) → after_comment bytes ≡ Some rest → after_comment (bytes ++ 10 ∷ r) ≡ Some (rest ++ 10 ∷ r)
comment_on bytes r rest e =
    ap (λ o. if o then after_open false 0 (bytes ++ 10 ∷ r) else None) (opens_on bytes r) ∙ by (opens bytes) e
  where
    by : (o : Bool) → (if o then after_open false 0 bytes else None) ≡ Some rest
        → (if o then after_open false 0 (bytes ++ 10 ∷ r) else None) ≡ Some (rest ++ 10 ∷ r)
    by true f = open_on false 0 bytes r rest f
    by false f = absurd cc

-- ---- no token has LF in it

abbrev pub is_other : ℕ → Bool
is_other b = not (b == 10)

not_line : (test : ℕ → Bool) → test 10 ≡ false → (b : ℕ) → test b ≡ true → is_other b ≡ true
not_line test none b e = elim (cases_Bool (b == 10)) [
  | inl same ↦ absurd (clash (test 10) none (subst (λ n. test n ≡ true) (eqb-true b 10 same) e))
  | inr other ↦ ap not other
]

both_true : (x y : Bool) → x ≡ true → y ≡ true → (x && y) ≡ true
both_true x y e f = rw (e, f) refl

all_other : (test : ℕ → Bool) → test 10 ≡ false → (bs : List ℕ) → list_all test bs ≡ true → list_all is_other bs ≡ true
all_other test none [] e = refl
all_other test none (b ∷ bs) e =
    let parts = and_parts (test b) (list_all test bs) e in
    both_true (is_other b) (list_all is_other bs) (not_line test none b parts.0) (all_other test none bs parts.1)

symbols_other : list_all (λ e. list_all is_other e.name) symbol_list ≡ true
symbols_other = refl

word_other : (text : List ℕ) → is_word text ≡ true → list_all is_other text ≡ true
word_other [] e = refl
word_other (b ∷ bs) e =
    let parts = and_parts (is_letter b) (list_all is_name_byte bs) e in
    both_true (is_other b) (list_all is_other bs) (not_line is_letter refl b parts.0) (all_other is_name_byte refl bs parts.1)

pub no_line : (kind : Kind) (text : List ℕ) → Spells kind text → list_all is_other text ≡ true
no_line kind [] s = refl
no_line Word (b ∷ bs) s = word_other (b ∷ bs) s
no_line TyVar (b ∷ bs) s =
    let parts = and_parts (b == 39) (is_word bs) s in
    both_true (is_other b) (list_all is_other bs) (not_line (λ n. n == 39) refl b parts.0) (word_other bs parts.1)
no_line Number (b ∷ bs) s = all_other is_digit refl (b ∷ bs) s
no_line (Sym code) (b ∷ bs) s = in_table (λ t. list_all is_other t) symbol_list (b ∷ bs) code symbols_other s

pub before_line : (bytes r : List ℕ) (n : ℕ) → list_all is_other (take n (bytes ++ 10 ∷ r)) ≡ true → n ≤ length bytes
before_line bytes r zero e = omega arith
before_line [] r (suc n) e = absurd cc
before_line (b ∷ bytes) r (suc n) e =
    omega (arith, before_line bytes r n (and_parts (is_other b) (list_all is_other (take n (bytes ++ 10 ∷ r))) e).1)

-- ---- parts stand where they stood

stands_on : (p : Part) (bytes r : List ℕ) → size_of p ≤ length bytes → Stands bytes p → Stands (bytes ++ 10 ∷ r) p
stands_on (parts.Skip size) [] r le (inl h) = absurd cc
stands_on (parts.Skip size) (b ∷ bytes) r le (inl h) = inl h
stands_on (parts.Skip size) bytes r le (inr h) = inr (
  omega (arith, le, length-append bytes (10 ∷ r)),
  comment_on bytes r (drop size bytes) h.1 ∙ ap Some (sym (drop_on size bytes (10 ∷ r) le)),
)
stands_on (parts.Token kind size) bytes r le t =
    let front : take size (bytes ++ 10 ∷ r) ≡ take size bytes = take_on size bytes (10 ∷ r) le in
    record {
      no_comment = opens_on bytes r ∙ t.no_comment;
      is_longest = record {
        within = omega (arith, le, length-append bytes (10 ∷ r));
        spelled = subst (λ l. Spells kind l) (sym front) t.is_longest.spelled;
        longest = λ other n low s.
            let within = before_line bytes r n (no_line other (take n (bytes ++ 10 ∷ r)) s) in
            t.is_longest.longest other n within (subst (λ l. Spells other l) (take_on n bytes (10 ∷ r) within) s);
      };
      fits = λ e. subst (λ l. value l < 2 ^ 64) (sym front) (t.fits e);
    }

begin_on : (ps : List Part) (bytes r : List ℕ) (qs : List Part) → total ps ≡ length bytes → BeginsWith bytes ps → BeginsWith r qs
    → BeginsWith (bytes ++ 10 ∷ r) (ps ++ parts.Skip 1 ∷ qs)
begin_on [] [] r qs e h k = (inl (refl, refl), k)
begin_on [] (b ∷ bytes) r qs e h k = absurd (omega (arith, e))
begin_on (p ∷ ps) bytes r qs e h k =
    let le : size_of p ≤ length bytes = omega (arith, e) in (
      stands_on p bytes r le h.0,
      subst (λ l. BeginsWith l (ps ++ parts.Skip 1 ∷ qs)) (sym (drop_on (size_of p) bytes (10 ∷ r) le))
          (begin_on ps (drop (size_of p) bytes) r qs (omega (arith, e, length-drop (size_of p) bytes)) h.1 k),
    )

total_on : (ps qs : List Part) → total (ps ++ parts.Skip 1 ∷ qs) ≡ total ps + (1 + total qs)
total_on [] qs = omega arith
total_on (p ∷ ps) qs = omega (arith, total_on ps qs)

-- ---- their tokens

pub tokens_moved : (at n : ℕ) (qs : List Part) → tokens_from (at + n) qs ≡ map (moved n) (tokens_from at qs)
tokens_moved at n [] = refl
tokens_moved at n (parts.Skip size ∷ qs) =
    let same : at + n + size ≡ at + size + n = omega arith in
    ap (λ m. tokens_from m qs) same ∙ tokens_moved (at + size) n qs
tokens_moved at n (parts.Token kind size ∷ qs) =
    let same : at + n + size ≡ at + size + n = omega arith in
    λ i. token kind (at + n) (same i) ∷ (ap (λ m. tokens_from m qs) same ∙ tokens_moved (at + size) n qs) i

tokens_on : (at end : ℕ) (ps qs : List Part) → at + total ps ≡ end
    → tokens_from at (ps ++ parts.Skip 1 ∷ qs) ≡ tokens_from at ps ++ tokens_from (end + 1) qs
tokens_on at end [] qs e = let same : at ≡ end = omega arith in ap (λ n. tokens_from (n + 1) qs) same
tokens_on at end (parts.Skip size ∷ ps) qs e = tokens_on (at + size) end ps qs (omega (arith, e))
tokens_on at end (parts.Token kind size ∷ ps) qs e =
    ap (λ ts. token kind at (at + size) ∷ ts) (tokens_on (at + size) end ps qs (omega (arith, e)))

place : (n : ℕ) → 0 + (n + 1) ≡ n + 1
place n = omega arith

pub readings_join : ReadingsJoin
readings_join a b ts us (ps, h, e, f) (qs, k, d, g) = (
  ps ++ parts.Skip 1 ∷ qs,
  begin_on ps a b qs (sym e) h k,
  omega (arith, e, d, total_on ps qs, length-append a (10 ∷ b)),
  (λ i. f i ++ map (moved (length a + 1)) (g i))
      ∙ ap (λ l. tokens_from 0 ps ++ l) (sym (ap (λ m. tokens_from m qs) (sym (place (length a))) ∙ tokens_moved 0 (length a + 1) qs))
      ∙ sym (tokens_on 0 (length a) ps qs (omega (arith, e))),
)

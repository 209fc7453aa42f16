-- Where a token ends: what may follow it, so that it is the longest one there.
use Rattle.std.proofs.Common.{◌≡◌, ℕ, zero, suc, ◌≤◌, Bool, true, false, not, ◌&&◌, ◌||◌, ◌==◌, List, [], ◌∷◌, ◌++◌, length, take, inl, inr, refl, sym, ap, subst, ◌∙◌, arith, length-append}
use Rattle.std.specs.Prelude.{◌⊎◌, if◌then◌else◌, codes}
use Rattle.std.specs.List.{list_all}
use Rattle.std.proofs.lemmas.Bool.{and_parts, or_parts, cases_Bool}
use Rattle.tg_lex.specs.declared.token.Kind.{Kind}
use Rattle.tg_lex.specs.Grammar.{Spells, opens}
use Rattle.tg_lex.proofs.Texts.{nothing_spelled, clash}
use Rattle.tg_rules.specs.Rule.{has}
use Rattle.tg_render.specs.Render.{last_or, opening, closing, is_apart, gap}
use Rattle.tg_render.proofs.Bytes.{is_inner, rest_inner, closing_ends, not_two, single, opens_none}

-- a byte that ends each token
abbrev pub IsBroken : List ℕ → Type 0
IsBroken rest = (b : ℕ) × (r : List ℕ) × (rest ≡ b ∷ r) × (is_inner b ≡ false) × ((b == 42) ≡ false)

-- a token of one byte that begins no longer one
abbrev pub IsClear : List ℕ → List ℕ → Type 0
IsClear text rest = (c : ℕ) × (b : ℕ) × (r : List ℕ) × (text ≡ c ∷ []) × (rest ≡ b ∷ r) × (has opening c ≡ true) × ((c == 40 && b == 42) ≡ false)

abbrev pub IsBreak : List ℕ → Type 0
IsBreak rest = (rest ≡ []) ⊎ IsBroken rest

abbrev pub Follows : List ℕ → List ℕ → Type 0
Follows text rest = IsBreak rest ⊎ IsClear text rest

-- ---- nothing longer stands there

within_text : (text r : List ℕ) (b n : ℕ) → list_all is_inner (take n (text ++ b ∷ r)) ≡ true → is_inner b ≡ false → n ≤ length text
within_text text r b zero all out = omega arith
within_text [] r b (suc n) all out = absurd (clash (is_inner b) out (and_parts (is_inner b) (list_all is_inner (take n r)) all).0)
within_text (c ∷ text) r b (suc n) all out =
    omega (arith, within_text text r b n (and_parts (is_inner c) (list_all is_inner (take n (text ++ b ∷ r))) all).1 out)

broken_most : (c b : ℕ) (text r : List ℕ) (other : Kind) (n : ℕ) → is_inner b ≡ false → Spells other (take n ((c ∷ text) ++ b ∷ r)) → n ≤ length (c ∷ text)
broken_most c b text r other zero out s = omega arith
broken_most c b text r other (suc n) out s = omega (arith, within_text text r b n (rest_inner other c (take n (text ++ b ∷ r)) s) out)

clear_most : (c : ℕ) (r : List ℕ) (other : Kind) (n : ℕ) → has opening c ≡ true → n ≤ length (c ∷ r) → Spells other (take n (c ∷ r)) → n ≤ 1
clear_most c r other zero h le s = omega arith
clear_most c r other (suc zero) h le s = omega arith
clear_most c [] other (suc (suc n)) h le s = omega arith
clear_most c (d ∷ r) other (suc (suc n)) h le s = absurd (not_two other c d (take n r) h s)

pub most : (kind : Kind) (text rest : List ℕ) → Spells kind text → Follows text rest
    → (other : Kind) (n : ℕ) → n ≤ length (text ++ rest) → Spells other (take n (text ++ rest)) → n ≤ length text
most kind [] rest k f other n le s = absurd (nothing_spelled kind k)
most kind (c ∷ text) rest k (inl (inl e)) other n le s = omega (arith, le, length-append (c ∷ text) rest, ap length e)
most kind (c ∷ text) rest k (inl (inr (b, r, e, out, star))) other n le s =
    broken_most c b text r other n out (subst (λ z. Spells other (take n ((c ∷ text) ++ z))) e s)
most kind (c ∷ text) rest k (inr (d, b, r, et, er, h, star)) other n le s =
    let same : c ≡ d = cc in
    let nothing : text ≡ [] = cc in
    let alone : (c ∷ text) ++ rest ≡ c ∷ rest = ap (λ z. c ∷ (z ++ rest)) nothing in
    let small : n ≤ 1 = clear_most c rest other n (subst (λ z. has opening z ≡ true) (sym same) h)
    (subst (λ z. n ≤ length z) alone le) (subst (λ z. Spells other (take n z)) alone s) in
    omega (arith, small)

-- ---- no comment stands there

starless : (b c : ℕ) → (c == 42) ≡ false → (b == 40 && c == 42) ≡ false
starless b c e = elim (cases_Bool (b == 40)) [
  | inl same ↦ rw (same, e) refl
  | inr other ↦ rw other refl
]

pub no_opening : (kind : Kind) (text rest : List ℕ) → Spells kind text → Follows text rest → opens (text ++ rest) ≡ false
no_opening kind [] rest k f = absurd (nothing_spelled kind k)
no_opening kind (b ∷ []) rest k (inl (inl e)) = ap (λ z. opens (b ∷ z)) e
no_opening kind (b ∷ []) rest k (inl (inr (c, r, e, out, star))) = ap (λ z. opens (b ∷ z)) e ∙ starless b c star
no_opening kind (b ∷ []) rest k (inr (d, c, r, et, er, h, star)) =
    let same : b ≡ d = cc in
    ap (λ z. opens (b ∷ z)) er ∙ ap (λ z. z == 40 && c == 42) same ∙ star
no_opening kind (b ∷ c ∷ text) rest k f = opens_none kind b c text k

-- ---- what is written behind a token may follow it

over : (l c : ℕ) → not (has opening l || has closing c) ≡ false → has closing c ≡ false → has opening l ≡ true
over l c e f = elim (cases_Bool (has opening l)) [
  | inl opens ↦ opens
  | inr other ↦ absurd (clash (not (has opening l || has closing c)) e (rw (other, f) refl))
]

close : (kind : Kind) (text : List ℕ) (before c : ℕ) (more : List ℕ) → Spells kind text → is_apart (last_or before text) (c ∷ []) ≡ false
    → Follows text (c ∷ more)
close kind text before c more k e =
    let l = last_or before text in
    let parts = or_parts (l == 40 && c == 42) (not (has opening l || has closing c)) e in
    elim (cases_Bool (has closing c)) [
      | inl closes ↦ let ends = closing_ends c closes in inl (inr (c, more, refl, ends.0, ends.1))
      | inr other ↦
          let h : has opening l ≡ true = over l c parts.1 other in
          inr (l, c, more, single kind text before k h, refl, h, parts.0)
    ]

pub next_follows : (kind other : Kind) (text next more : List ℕ) (before : ℕ) → Spells kind text → Spells other next
    → Follows text (gap (last_or before text) next ++ (next ++ more))
next_follows kind other text [] more before k s = absurd (nothing_spelled other s)
next_follows kind other text (c ∷ cs) more before k s =
    elim (cases_Bool (is_apart (last_or before text) (c ∷ []))) [
      | inl apart ↦ inl (inr (32, (c ∷ cs) ++ more, ap (λ (t : Bool). (if t then codes " " else []) ++ ((c ∷ cs) ++ more)) apart, refl, refl))
      | inr near ↦ subst (λ z. Follows text (z ++ ((c ∷ cs) ++ more))) (sym (no_gap (last_or before text) c cs near)) (close kind text before c (cs ++ more) k near)
    ] where
      no_gap : (l c : ℕ) (cs : List ℕ) → is_apart l (c ∷ []) ≡ false → gap l (c ∷ cs) ≡ []
      no_gap l c cs e = rw e refl

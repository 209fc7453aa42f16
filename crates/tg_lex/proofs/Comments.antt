-- Steps through a comment.
use Rattle.std.proofs.Common.{◌≡◌, ℕ, zero, suc, ◌+◌, ◌-◌, ◌<◌, ◌≤◌, Bool, true, false, List, [], ◌∷◌, length, take, drop, Option, Some, None, refl, sym, ap, ◌∙◌, arith, add-one, length-drop}
use Rattle.std.proofs.lemmas.Bool.{cond-true}
use Rattle.std.proofs.Math.ListN.{drop_of_length-le}
use Rattle.tg_lex.specs.Grammar.{opens, closes, after_open, after_comment}

drop-nil : {X : Type 0} (n : ℕ) → drop {A = X} n [] ≡ []
drop-nil zero = refl
drop-nil (suc n) = refl

pub drop-add : {X : Type 0} (n m : ℕ) (xs : List X) → drop n (drop m xs) ≡ drop (m + n) xs
drop-add n zero xs = ap (λ k. drop k xs) (omega arith)
drop-add n (suc m) [] = drop-nil n ∙ sym (drop-nil (suc m + n))
drop-add {X} n (suc m) (x ∷ xs) =
    let more : suc (m + n) ≡ suc m + n = omega arith in
    drop-add n m xs ∙ ap (λ k. drop {A = X} k (x ∷ xs)) more

pub two_at_least : (bytes : List ℕ) → opens bytes ≡ true → 2 ≤ length bytes
two_at_least [] e = absurd cc
two_at_least (b ∷ []) e = absurd cc
two_at_least (b ∷ c ∷ bs) e = omega arith

pub two_to_close : (bytes : List ℕ) → closes bytes ≡ true → 2 ≤ length bytes
two_to_close [] e = absurd cc
two_to_close (b ∷ []) e = absurd cc
two_to_close (b ∷ c ∷ bs) e = omega arith

-- the three ways on, at the two tests
abbrev ways : Bool → Bool → Option (List ℕ) → Option (List ℕ) → Option (List ℕ) → Option (List ℕ)
ways o c x y z = elim o [ true ↦ x | false ↦ elim c [ true ↦ y | false ↦ z ] ]

at_open : (o c : Bool) (x y z : Option (List ℕ)) → o ≡ true → ways o c x y z ≡ x
at_open o c x y z e = ap (λ t. ways t c x y z) e

at_close : (o c : Bool) (x y z : Option (List ℕ)) → o ≡ false → c ≡ true → ways o c x y z ≡ y
at_close o c x y z e f = ap (λ t. ways t c x y z) e ∙ ap (λ t. ways false t x y z) f

at_other : (o c : Bool) (x y z : Option (List ℕ)) → o ≡ false → c ≡ false → ways o c x y z ≡ z
at_other o c x y z e f = ap (λ t. ways t c x y z) e ∙ ap (λ t. ways false t x y z) f

unfolds : (depth b : ℕ) (bs : List ℕ) → after_open false depth (b ∷ bs) ≡ ways (opens (b ∷ bs)) (closes (b ∷ bs)) (after_open true (suc depth) bs) (after_open true (depth - 1) bs) (after_open false depth bs)
unfolds depth b bs = refl

pub step_open : (depth : ℕ) (bytes : List ℕ) → opens bytes ≡ true → after_open false depth bytes ≡ after_open false (suc depth) (drop 2 bytes)
step_open depth [] e = absurd cc
step_open depth (b ∷ []) e = absurd cc
step_open depth (b ∷ c ∷ bs) e = at_open (opens (b ∷ c ∷ bs)) (closes (b ∷ c ∷ bs)) (after_open true (suc depth) (c ∷ bs)) (after_open true (depth - 1) (c ∷ bs)) (after_open false depth (c ∷ bs)) e

pub step_close : (depth : ℕ) (bytes : List ℕ) → opens bytes ≡ false → closes bytes ≡ true → after_open false (suc (suc depth)) bytes ≡ after_open false (suc depth) (drop 2 bytes)
step_close depth [] e f = absurd cc
step_close depth (b ∷ []) e f = absurd cc
step_close depth (b ∷ c ∷ bs) e f =
    let one : suc (suc depth) - 1 ≡ suc depth = omega arith in
    at_close (opens (b ∷ c ∷ bs)) (closes (b ∷ c ∷ bs)) (after_open true (suc (suc (suc depth))) (c ∷ bs)) (after_open true (suc (suc depth) - 1) (c ∷ bs)) (after_open false (suc (suc depth)) (c ∷ bs)) e f
    ∙ ap (λ d. after_open true d (c ∷ bs)) one

pub step_last : (bytes : List ℕ) → opens bytes ≡ false → closes bytes ≡ true → after_open false 1 bytes ≡ Some (drop 2 bytes)
step_last [] e f = absurd cc
step_last (b ∷ []) e f = absurd cc
step_last (b ∷ c ∷ bs) e f = at_close (opens (b ∷ c ∷ bs)) (closes (b ∷ c ∷ bs)) (after_open true 2 (c ∷ bs)) (after_open true 0 (c ∷ bs)) (after_open false 1 (c ∷ bs)) e f

pub step_past : (depth : ℕ) (bytes : List ℕ) → opens bytes ≡ false → closes bytes ≡ false → after_open false depth bytes ≡ after_open false depth (drop 1 bytes)
step_past depth [] e f = refl
step_past depth (b ∷ bs) e f = at_other (opens (b ∷ bs)) (closes (b ∷ bs)) (after_open true (suc depth) bs) (after_open true (depth - 1) bs) (after_open false depth bs) e f

pub starts : (bytes : List ℕ) → opens bytes ≡ true → after_open false 1 (drop 2 bytes) ≡ after_comment bytes
starts bytes e = sym (cond-true (opens bytes) (after_open false 0 bytes) None e ∙ step_open 0 bytes e)

-- the same at the place `at` of a text, of which `all` is said
pub opens_at : (depth at : ℕ) (bytes : List ℕ) (all : Option (List ℕ)) → after_open false depth (drop at bytes) ≡ all → opens (drop at bytes) ≡ true
    → after_open false (depth + 1) (drop (at + 2) bytes) ≡ all
opens_at depth at bytes all e o =
    rw add-one (ap (λ r. after_open false (suc depth) r) (sym (drop-add 2 at bytes)) ∙ sym (step_open depth (drop at bytes) o) ∙ e)

pub closes_at : (depth at : ℕ) (bytes : List ℕ) (all : Option (List ℕ)) → after_open false depth (drop at bytes) ≡ all → opens (drop at bytes) ≡ false → closes (drop at bytes) ≡ true
    → 1 < depth → after_open false (depth - 1) (drop (at + 2) bytes) ≡ all
closes_at zero at bytes all e o c deep = absurd (omega arith)
closes_at (suc zero) at bytes all e o c deep = absurd (omega arith)
closes_at (suc (suc depth)) at bytes all e o c deep =
    let one : suc (suc depth) - 1 ≡ suc depth = omega arith in
    ap (λ d. after_open false d (drop (at + 2) bytes)) one ∙ ap (λ r. after_open false (suc depth) r) (sym (drop-add 2 at bytes)) ∙ sym (step_close depth (drop at bytes) o c) ∙ e

pub last_at : (at : ℕ) (bytes : List ℕ) (all : Option (List ℕ)) → after_open false 1 (drop at bytes) ≡ all → opens (drop at bytes) ≡ false → closes (drop at bytes) ≡ true
    → Some (drop (at + 2) bytes) ≡ all
last_at at bytes all e o c = ap Some (sym (drop-add 2 at bytes)) ∙ sym (step_last (drop at bytes) o c) ∙ e

pub past_at : (depth at : ℕ) (bytes : List ℕ) (all : Option (List ℕ)) → after_open false depth (drop at bytes) ≡ all → opens (drop at bytes) ≡ false → closes (drop at bytes) ≡ false
    → after_open false depth (drop (at + 1) bytes) ≡ all
past_at depth at bytes all e o c = ap (λ r. after_open false depth r) (sym (drop-add 1 at bytes)) ∙ sym (step_past depth (drop at bytes) o c) ∙ e

pub ends_at : (depth at : ℕ) (bytes : List ℕ) (all : Option (List ℕ)) → after_open false depth (drop at bytes) ≡ all → length bytes ≤ at → None ≡ all
ends_at depth at bytes all e past = sym (ap (λ r. after_open false depth r) (drop_of_length-le bytes past)) ∙ e

pub room_to_open : (at : ℕ) (bytes : List ℕ) → opens (drop at bytes) ≡ true → at ≤ length bytes → at + 2 ≤ length bytes
room_to_open at bytes e le = omega (arith, two_at_least (drop at bytes) e, length-drop at bytes)

pub room_to_close : (at : ℕ) (bytes : List ℕ) → closes (drop at bytes) ≡ true → at ≤ length bytes → at + 2 ≤ length bytes
room_to_close at bytes e le = omega (arith, two_to_close (drop at bytes) e, length-drop at bytes)

take-all : (n : ℕ) (xs : List ℕ) → length xs ≤ n → take n xs ≡ xs
take-all zero [] le = refl
take-all (suc n) [] le = refl
take-all zero (x ∷ xs) le = absurd (omega arith)
take-all (suc n) (x ∷ xs) le = ap (λ ys. x ∷ ys) (take-all n xs (omega arith))

-- the rest from `at` on, as a slice has it
pub rest_is : (at : ℕ) (bytes : List ℕ) → take (length bytes - at) (drop at bytes) ≡ drop at bytes
rest_is at bytes = take-all (length bytes - at) (drop at bytes) (omega (arith, length-drop at bytes))

pub opens_rest : (at : ℕ) (bytes : List ℕ) → opens (drop at bytes) ≡ opens (take (length bytes - at) (drop at bytes))
opens_rest at bytes = ap opens (sym (rest_is at bytes))

pub closes_rest : (at : ℕ) (bytes : List ℕ) → closes (drop at bytes) ≡ closes (take (length bytes - at) (drop at bytes))
closes_rest at bytes = ap closes (sym (rest_is at bytes))

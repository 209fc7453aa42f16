-- The last byte of a text.
use Rattle.std.proofs.Common.{◌≡◌, ℕ, ◌-◌, List, [], ◌∷◌, ◌++◌, length, slice_get, true, false, Some, None, refl, sym, ap, ◌∙◌, arith, append_assoc}
use Rattle.std.specs.Prelude.{if◌then◌else◌, codes}
use Rattle.tg_render.specs.Render.{last_or, is_apart, put}

last_at : (b : ℕ) (bs : List ℕ) → slice_get (b ∷ bs) (length bs) ≡ Some (last_or b bs)
last_at b [] = refl
last_at b (c ∷ bs) = last_at c bs

last_place : (b : ℕ) (bs : List ℕ) → slice_get (b ∷ bs) (length (b ∷ bs) - 1) ≡ Some (last_or b bs)
last_place b bs =
    let place : length (b ∷ bs) - 1 ≡ length bs = omega arith in
    ap (slice_get (b ∷ bs)) place ∙ last_at b bs

pub last-some : (bs : List ℕ) (before b : ℕ) → slice_get bs (length bs - 1) ≡ Some b → last_or before bs ≡ b
last-some [] before b e = absurd cc
last-some (c ∷ bs) before b e = let last = last_place c bs in cc

pub last-none : (bs : List ℕ) (before : ℕ) → slice_get bs (length bs - 1) ≡ None → last_or before bs ≡ before
last-none [] before e = refl
last-none (c ∷ bs) before e = let last = last_place c bs in absurd cc

pub last-append : (before : ℕ) (xs ys : List ℕ) → last_or before (xs ++ ys) ≡ last_or (last_or before xs) ys
last-append before [] ys = refl
last-append before (x ∷ xs) ys = last-append x xs ys

-- a space is a matter of two bytes
pub apart-first : (before next : ℕ) (text : List ℕ) → slice_get text 0 ≡ Some next → is_apart before text ≡ is_apart before (next ∷ [])
apart-first before next [] e = absurd cc
apart-first before next (c ∷ text) e = let same : c ≡ next = cc in ap (λ n. is_apart before (n ∷ [])) same

pub apart-nothing : (before : ℕ) (text : List ℕ) → slice_get text 0 ≡ None → is_apart before text ≡ false
apart-nothing before [] e = refl
apart-nothing before (c ∷ text) e = absurd cc

pub put-apart : (out text : List ℕ) → is_apart (last_or 10 out) text ≡ true → (out ++ 32 ∷ []) ++ text ≡ put out text
unfolding put
put-apart out text e = append_assoc out (32 ∷ []) text ∙ ap (λ b. out ++ ((if b then codes " " else []) ++ text)) (sym e)

pub put-near : (out text : List ℕ) → is_apart (last_or 10 out) text ≡ false → out ++ text ≡ put out text
unfolding put
put-near out text e = ap (λ b. out ++ ((if b then codes " " else []) ++ text)) (sym e)

pub ruleset ends = (last-some, last-none, apart-first, apart-nothing, put-apart, put-near)

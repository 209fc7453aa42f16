-- Places in lists of values.
use Rattle.std.proofs.Common.{ℕ, zero, suc, ◌≡◌, ◌<◌, ◌≤◌, ◌+◌, ◌-◌, List, [], ◌∷◌, ◌++◌, map, reverse, length, Some, None, refl, ◌∙◌, ap, arith}
use Rattle.std.specs.Prelude.{slice_get}
use mathlib.Core.List.{reverse_aux}

pub get_left : {A : Type 0} (xs ys : List A) (k : ℕ) → k < length xs → slice_get (xs ++ ys) k ≡ slice_get xs k
get_left [] ys k h = absurd (omega arith)
get_left (x ∷ xs) ys zero h = refl
get_left (x ∷ xs) ys (suc k) h = get_left xs ys k (omega arith)

pub get_right : {A : Type 0} (xs ys : List A) (k : ℕ) → slice_get (xs ++ ys) (k + length xs) ≡ slice_get ys k
get_right [] ys k = ap (slice_get ys) (let e : k + 0 ≡ k = omega arith in e)
get_right (x ∷ xs) ys k =
    let e : k + suc (length xs) ≡ suc (k + length xs) = omega arith in
    ap (slice_get (x ∷ (xs ++ ys))) e ∙ get_right xs ys k

pub get_within : {A : Type 0} (xs : List A) (k : ℕ) → k < length xs → (x : A) × (slice_get xs k ≡ Some x)
get_within [] k h = absurd (omega arith)
get_within (x ∷ xs) zero h = (x, refl)
get_within (x ∷ xs) (suc k) h = get_within xs k (omega arith)

-- the same at a place that is known to be past the first list
pub get_past : {A : Type 0} (xs ys : List A) (k : ℕ) → length xs ≤ k → slice_get (xs ++ ys) k ≡ slice_get ys (k - length xs)
get_past xs ys k h =
    let e : k ≡ (k - length xs) + length xs = omega arith in
    ap (slice_get (xs ++ ys)) e ∙ get_right xs ys (k - length xs)

map_onto : {A B : Type 0} (f : A → B) (xs ys : List A) → map f (reverse_aux xs ys) ≡ reverse_aux (map f xs) (map f ys)
map_onto f [] ys = refl
map_onto f (x ∷ xs) ys = map_onto f xs (x ∷ ys)

pub map-reverse : {A B : Type 0} (f : A → B) (xs : List A) → map f (reverse xs) ≡ reverse (map f xs)
map-reverse f xs = map_onto f xs []

pub none_past : {A : Type 0} (xs : List A) (k : ℕ) → slice_get xs k ≡ None → length xs ≤ k
none_past [] k h = omega arith
none_past (x ∷ xs) zero h = cc
none_past (x ∷ xs) (suc k) h = let m = none_past xs k h in omega arith

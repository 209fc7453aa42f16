-- The place of a variable, and where it is bound.
use Rattle.std.proofs.Common.{ℕ, zero, suc, ◌≡◌, ◌+◌, ◌-◌, ◌<◌, ◌≤◌, get_or, Bool, true, false, List, [], ◌∷◌, ◌++◌, length, reverse, Option, Some, None, refl, sym, ◌∙◌, ap, subst, arith, if◌then◌else◌}
use Rattle.std.specs.Prelude.{option_map, drop, slice_get, nat_eq}
use Rattle.std.proofs.lemmas.Bool.Decides.{eqb_tells}
use Rattle.std.proofs.Common.{inl, inr}
use Rattle.std.specs.Option.{option_map_or}
use Rattle.std.specs.Str.{bytes_eq}
use Rattle.std.proofs.lemmas.Option.{slice_get_read}
use Rattle.std.proofs.lemmas.List.{reverse-append, length-reverse}
use Rattle.std.proofs.lemmas.Slice.Eq.{bytes_eq-Decides}
use Rattle.indexmap.specs.IndexMap.{get}
use Rattle.tg_accept.specs.Raw.{Binder, name, level}
use Rattle.tg_accept.specs.Meaning.{same_binder, place_of}
use Rattle.tg_infer.specs.declared.binders.Bound.{Bound}
use Rattle.tg_infer.specs.declared.binders.Binders.{Binders}
use Rattle.tg_infer.specs.Binders.{level_of, seen, binders, AreHiding, known, AreRight, HaveBound, HaveLeft}

abbrev pub Name : Type 0
Name = List ℕ

pub same_Some : {A : Type 0} (x y : A) → Some x ≡ Some y → x ≡ y
same_Some {A = A} x y e = ap (λ o. of o) e
  where
    of : Option A → A
    of None = x
    of (Some z) = z

-- what a place is where the variable is bound at a level among so many
abbrev pub IsPlace : Option ℕ → Option ℕ → ℕ → Type 0
IsPlace None o n = None ≡ o
IsPlace (Some l) o n = (l < n) × (Some (n - (l + 1)) ≡ o)

place : (x : Name) (ys : List Binder) → IsPlace (level_of x ys) (place_of (name x) ys) (length ys)
place x [] = refl
place x (y ∷ ys) = go (same_binder (name x) y) (level_of x ys) (place_of (name x) ys) (place x ys)
  where
    go : (b : Bool) (l o : Option ℕ) → IsPlace l o (length ys)
        → IsPlace (if b then Some (length ys) else l) (if b then Some 0 else option_map suc o) (suc (length ys))
    go true l o h = (omega arith, ap Some (let s : suc (length ys) - (length ys + 1) ≡ 0 = omega arith in s))
    go false None o h = ap (option_map suc) h
    go false (Some l) o h =
        (omega (arith, h.0), ap Some (let s : suc (length ys) - (l + 1) ≡ suc (length ys - (l + 1)) = omega (arith, h.0) in s) ∙ ap (option_map suc) h.1)

pub seen_length : (bs : List Bound) → length (seen bs) ≡ length bs
seen_length [] = refl
seen_length (b ∷ bs) = ap suc (seen_length bs)

pub binders_length : (b : Binders) → length (binders b) ≡ length b.bound.items
binders_length b = seen_length (reverse b.bound.items) ∙ length-reverse b.bound.items

pub no_place : (x : Name) (b : Binders) → None ≡ level_of x (binders b) → None ≡ place_of (name x) (binders b)
no_place x b e = subst (λ l. IsPlace l (place_of (name x) (binders b)) (length (binders b))) (sym e) (place x (binders b))

place_at : (x : Name) (b : Binders) (l : ℕ) → Some l ≡ level_of x (binders b) → IsPlace (Some l) (place_of (name x) (binders b)) (length b.bound.items)
place_at x b l e =
    subst (λ n. IsPlace (Some l) (place_of (name x) (binders b)) n) (binders_length b)
    (subst (λ o. IsPlace o (place_of (name x) (binders b)) (length (binders b))) (sym e) (place x (binders b)))

pub within : (x : Name) (b : Binders) (l : ℕ) → Some l ≡ level_of x (binders b) → l < length b.bound.items
within x b l e = (place_at x b l e).0

pub some_place : (x : Name) (b : Binders) (l : ℕ) → Some l ≡ level_of x (binders b) → Some (length b.bound.items - (l + 1)) ≡ place_of (name x) (binders b)
some_place x b l e = (place_at x b l e).1

pub ruleset places = (binders_length, no_place, within, some_place)

-- ---- levels

pub known_level : (x : Name) (b : Binders) (o : Option ℕ) → AreRight b → Some o ≡ get bytes_eq b.levels x → o ≡ level_of x (binders b)
known_level x b o h e = ap known e ∙ h.levels x

pub unknown_level : (x : Name) (b : Binders) → AreRight b → None ≡ get bytes_eq b.levels x → None ≡ level_of x (binders b)
unknown_level x b h e = ap known e ∙ h.levels x

pub ruleset levels = (known_level, unknown_level)

-- ---- one more, and one less

pub same_flip : (x y : Name) → bytes_eq x y ≡ bytes_eq y x
same_flip x y = go (bytes_eq x y) (bytes_eq y x) (λ e. (bytes_eq-Decides y x).1 (sym ((bytes_eq-Decides x y).0 e))) (λ e. (bytes_eq-Decides x y).1 (sym ((bytes_eq-Decides y x).0 e)))
  where
    go : (a b : Bool) → (a ≡ true → b ≡ true) → (b ≡ true → a ≡ true) → a ≡ b
    go true b h k = sym (h refl)
    go false true h k = k refl
    go false false h k = refl

turned : (xs ys : List Bound) (b : Bound) → ys ≡ xs ++ b ∷ [] → reverse ys ≡ b ∷ reverse xs
turned xs ys b e = ap reverse e ∙ reverse-append xs (b ∷ [])

-- the map has another entry for the name, and is else as before
abbrev pub Is : Binders → Binders → Name → Option ℕ → Type 0
Is old new x o = (q : Name) → get bytes_eq new.levels q ≡ (if bytes_eq x q then Some o else get bytes_eq old.levels q)

known_if : (b : Bool) (o : Option ℕ) (g : Option (Option ℕ)) → known (if b then Some o else g) ≡ (if b then o else known g)
known_if true o g = refl
known_if false o g = refl

pub have_bound : (old new : Binders) (x : Name) (b : Bound) → AreRight old → new.bound.items ≡ old.bound.items ++ b ∷ [] → b.name ≡ Some x
    → b.hidden ≡ level_of x (binders old) → Is old new x (Some (length old.bound.items)) → HaveBound old new (name x)
have_bound old new x b h e named hides is =
    let t : reverse new.bound.items ≡ b ∷ reverse old.bound.items = turned old.bound.items new.bound.items b e in
    let s : binders new ≡ name x ∷ binders old = ap seen t ∙ ap (λ o. option_map_or name o (level (suc (length (reverse old.bound.items)))) ∷ binders old) named in
    record {
      is = s;
      right = record {
        hiding = subst AreHiding (sym t) ((λ y f. hides ∙ ap (λ z. level_of z (binders old)) (same_Some x y (sym named ∙ f))), h.hiding);
        levels = λ y.
            ap known (is y) ∙ known_if (bytes_eq x y) (Some (length old.bound.items)) (get bytes_eq old.levels y)
            ∙ (λ i. if same_flip x y i then Some (sym (binders_length old) i) else h.levels y i)
            ∙ ap (level_of y) (sym s);
      };
    }

pub have_bound_next : (old new : Binders) (b : Bound) → AreRight old → new.bound.items ≡ old.bound.items ++ b ∷ [] → b.name ≡ None
    → new.levels ≡ old.levels → HaveBound old new (level (suc (length (binders old))))
have_bound_next old new b h e unnamed same =
    let t : reverse new.bound.items ≡ b ∷ reverse old.bound.items = turned old.bound.items new.bound.items b e in
    let s : binders new ≡ level (suc (length (binders old))) ∷ binders old =
    ap seen t ∙ ap (λ o. option_map_or name o (level (suc (length (reverse old.bound.items)))) ∷ binders old) unnamed
    ∙ ap (λ n. level (suc n) ∷ binders old) (sym (seen_length (reverse old.bound.items))) in
    record {
      is = s;
      right = record {
        hiding = subst AreHiding (sym t) ((λ y f. let q : None ≡ Some y = sym unnamed ∙ f in cc q), h.hiding);
        levels = λ y. ap (λ m. known (get bytes_eq m y)) same ∙ h.levels y ∙ ap (level_of y) (sym s);
      };
    }

pub ruleset binding = (have_bound, have_bound_next)

pub have_left : (old new : Binders) (x : Name) (b : Bound) → AreRight old → old.bound.items ≡ new.bound.items ++ b ∷ [] → b.name ≡ Some x
    → Is old new x b.hidden → HaveLeft old new
have_left old new x b h e named is =
    let t : reverse old.bound.items ≡ b ∷ reverse new.bound.items = turned new.bound.items old.bound.items b e in
    let s : binders old ≡ name x ∷ binders new = ap seen t ∙ ap (λ o. option_map_or name o (level (suc (length (reverse new.bound.items)))) ∷ binders new) named in
    let k : AreHiding (b ∷ reverse new.bound.items) = subst AreHiding t h.hiding in
    record {
      is = ap (drop 1) (sym s);
      right = record {
        hiding = k.1;
        levels = λ y.
            ap known (is y) ∙ known_if (bytes_eq x y) b.hidden (get bytes_eq old.levels y)
            ∙ ap (λ o. if bytes_eq x y then b.hidden else o) (h.levels y ∙ ap (level_of y) s)
            ∙ back y (bytes_eq x y) refl (k.0 x named);
      };
    }
  where
    back : (y : Name) (c : Bool) → bytes_eq x y ≡ c → b.hidden ≡ level_of x (binders new)
        → (if c then b.hidden else level_of y (name x ∷ binders new)) ≡ level_of y (binders new)
    back y true f k = k ∙ ap (λ z. level_of z (binders new)) ((bytes_eq-Decides x y).0 f)
    back y false f k = ap (λ c. if c then Some (length (binders new)) else level_of y (binders new)) (same_flip y x ∙ f)

pub have_left_next : (old new : Binders) (b : Bound) → AreRight old → old.bound.items ≡ new.bound.items ++ b ∷ [] → b.name ≡ None
    → new.levels ≡ old.levels → HaveLeft old new
have_left_next old new b h e unnamed same =
    let t : reverse old.bound.items ≡ b ∷ reverse new.bound.items = turned new.bound.items old.bound.items b e in
    let s : binders old ≡ level (suc (length (reverse new.bound.items))) ∷ binders new =
    ap seen t ∙ ap (λ o. option_map_or name o (level (suc (length (reverse new.bound.items)))) ∷ binders new) unnamed in
    let k : AreHiding (b ∷ reverse new.bound.items) = subst AreHiding t h.hiding in
    record {
      is = ap (drop 1) (sym s);
      right = record { hiding = k.1; levels = λ y. ap (λ m. known (get bytes_eq m y)) same ∙ h.levels y ∙ ap (level_of y) s };
    }

pub have_left_none : (old new : Binders) → AreRight old → old.bound.items ≡ new.bound.items → length old.bound.items ≡ 0
    → new.levels ≡ old.levels → HaveLeft old new
have_left_none old new h e none same =
    let f : old.bound.items ≡ [] = empty old.bound.items none in
    record {
      is = ap (λ l. seen (reverse l)) (sym e ∙ f) ∙ ap (λ l. drop 1 (seen (reverse l))) (sym f);
      right = record {
        hiding = subst (λ l. AreHiding (reverse l)) e h.hiding;
        levels = λ y. ap (λ m. known (get bytes_eq m y)) same ∙ h.levels y ∙ ap (λ l. level_of y (seen (reverse l))) e;
      };
    }
  where
    empty : (bs : List Bound) → length bs ≡ 0 → bs ≡ []
    empty [] n = refl
    empty (b ∷ bs) n = absurd (omega (arith, n))

pub ruleset leaving = (have_left, have_left_next, have_left_none)

-- ---- numbers of binders

other : (m n : ℕ) → ¬ (m ≡ n) → nat_eq m n ≡ false
other m n h = elim (eqb_tells m n) [ inl p ↦ absurd (h p.1) | inr p ↦ p.0 ]

equal : (n : ℕ) → nat_eq n n ≡ true
equal n = elim (eqb_tells n n) [ inl p ↦ p.0 | inr p ↦ absurd (p.1 refl) ]

-- no variable has a number as great
beyond : (bs : List Bound) (n : ℕ) → length bs < n → place_of (level n) (seen bs) ≡ None
beyond [] n h = refl
beyond (b ∷ bs) n h = go b.name (other n (suc (length bs)) (λ e. omega (arith, h, e))) (beyond bs n (omega (arith, h)))
  where
    go : (o : Option Name) → nat_eq n (suc (length bs)) ≡ false → place_of (level n) (seen bs) ≡ None
        → place_of (level n) (option_map_or name o (level (suc (length bs))) ∷ seen bs) ≡ None
    go None e r = ap (λ c. if c then Some 0 else option_map suc (place_of (level n) (seen bs))) e ∙ ap (option_map suc) r
    go (Some x) e r = ap (option_map suc) r

nothing : (bs : List Bound) → place_of (level 0) (seen bs) ≡ None
nothing [] = refl
nothing (b ∷ bs) = go b.name (nothing bs) (other 0 (suc (length bs)) (λ e. omega (arith, e)))
  where
    go : (o : Option Name) → place_of (level 0) (seen bs) ≡ None → nat_eq 0 (suc (length bs)) ≡ false → place_of (level 0) (option_map_or name o (level (suc (length bs))) ∷ seen bs) ≡ None
    go None r e = ap (λ c. if c then Some 0 else option_map suc (place_of (level 0) (seen bs))) e ∙ ap (option_map suc) r
    go (Some x) r e = ap (option_map suc) r

-- the variable at a place, if it has no name
number_at : (bs : List Bound) (k : ℕ) (b : Bound) → slice_get bs k ≡ Some b
    → place_of (level (length bs - k)) (seen bs) ≡ option_map_or (λ x. None) b.name (Some k)
number_at [] k b e = cc e
number_at (c ∷ bs) zero b e =
    ap (λ n. place_of (level n) (seen (c ∷ bs))) (let s : suc (length bs) - 0 ≡ suc (length bs) = omega arith in s)
    ∙ ap (λ (d : Bound). place_of (level (suc (length bs))) (option_map_or name d.name (level (suc (length bs))) ∷ seen bs)) (same_Some c b e) ∙ go b.name
  where
    go : (o : Option Name) → place_of (level (suc (length bs))) (option_map_or name o (level (suc (length bs))) ∷ seen bs) ≡ option_map_or (λ x. None) o (Some 0)
    go None = ap (λ t. if t then Some 0 else option_map suc (place_of (level (suc (length bs))) (seen bs))) (equal (suc (length bs)))
    go (Some x) = ap (option_map suc) (beyond bs (suc (length bs)) (omega arith))
number_at (c ∷ bs) (suc k) b e =
    ap (λ n. place_of (level n) (seen (c ∷ bs))) (let s : suc (length bs) - suc k ≡ length bs - k = omega arith in s)
    ∙ go c.name (other (length bs - k) (suc (length bs)) (λ f. omega (arith, f)))
    ∙ ap (option_map suc) (number_at bs k b e) ∙ up b.name
  where
    go : (o : Option Name) → nat_eq (length bs - k) (suc (length bs)) ≡ false
        → place_of (level (length bs - k)) (option_map_or name o (level (suc (length bs))) ∷ seen bs) ≡ option_map suc (place_of (level (length bs - k)) (seen bs))
    go None f = ap (λ t. if t then Some 0 else option_map suc (place_of (level (length bs - k)) (seen bs))) f
    go (Some x) f = refl

    up : (o : Option Name) → option_map suc (option_map_or (λ x. None) o (Some k)) ≡ option_map_or (λ x. None) o (Some (suc k))
    up None = refl
    up (Some x) = refl

front : {A : Type 0} (zs ws : List A) (i : ℕ) (x : A) → slice_get zs i ≡ Some x → slice_get (zs ++ ws) i ≡ Some x
front [] ws i x e = cc e
front (z ∷ zs) ws zero x e = e
front (z ∷ zs) ws (suc i) x e = front zs ws i x e

last : {A : Type 0} (zs : List A) (y : A) → slice_get (zs ++ y ∷ []) (length zs) ≡ Some y
last [] y = refl
last (z ∷ zs) y = last zs y

turned_at : {A : Type 0} (xs : List A) (at : ℕ) (x : A) → slice_get xs at ≡ Some x → slice_get (reverse xs) (length xs - (at + 1)) ≡ Some x
turned_at [] at x e = cc e
turned_at (y ∷ ys) zero x e =
    let n : suc (length ys) - (0 + 1) ≡ length (reverse ys) = (let l = length-reverse ys in omega (arith, l)) in
    ap (λ l. slice_get l (suc (length ys) - (0 + 1))) (reverse-append (y ∷ []) ys) ∙ ap (slice_get (reverse ys ++ y ∷ [])) n ∙ last (reverse ys) y ∙ e
turned_at (y ∷ ys) (suc at) x e =
    let n : suc (length ys) - (suc at + 1) ≡ length ys - (at + 1) = omega arith in
    ap (λ l. slice_get l (suc (length ys) - (suc at + 1))) (reverse-append (y ∷ []) ys) ∙ ap (slice_get (reverse ys ++ y ∷ [])) n
    ∙ front (reverse ys) (y ∷ []) (length ys - (at + 1)) x (turned_at ys at x e)

read : {A : Type 0} (xs : List A) (i : ℕ) (x : A) → i < length xs → x ≡ get_or xs i x → slice_get xs i ≡ Some x
read xs i x h e = slice_get_read xs _ _ x refl h e

number_of_item : (b : Binders) (n : ℕ) (x : Bound) → 0 < n → n ≤ length b.bound.items → x ≡ get_or b.bound.items (n - 1) x
    → place_of (level n) (binders b) ≡ option_map_or (λ y. None) x.name (Some (length b.bound.items - n))
number_of_item b n x low high e =
    let is : slice_get b.bound.items (n - 1) ≡ Some x = read b.bound.items (n - 1) x (omega (arith, low, high)) e in
    let m : length b.bound.items - ((n - 1) + 1) ≡ length b.bound.items - n = omega (arith, low) in
    let t : slice_get (reverse b.bound.items) (length b.bound.items - n) ≡ Some x =
    subst (λ k. slice_get (reverse b.bound.items) k ≡ Some x) m (turned_at b.bound.items (n - 1) x is) in
    let l : length (reverse b.bound.items) - (length b.bound.items - n) ≡ n = (let r = length-reverse b.bound.items in omega (arith, r, low, high)) in
    ap (λ k. place_of (level k) (binders b)) (sym l) ∙ number_at (reverse b.bound.items) (length b.bound.items - n) x t

pub numbered_place : (b : Binders) (n : ℕ) (x : Bound) → 0 < n → n ≤ length b.bound.items → x ≡ get_or b.bound.items (n - 1) x → x.name ≡ None
    → Some (length b.bound.items - n) ≡ place_of (level n) (binders b)
numbered_place b n x low high e none = sym (number_of_item b n x low high e ∙ ap (λ o. option_map_or (λ y. None) o (Some (length b.bound.items - n))) none)

pub named_has_none : (b : Binders) (n : ℕ) (x : Bound) (y : Name) → 0 < n → n ≤ length b.bound.items → x ≡ get_or b.bound.items (n - 1) x → x.name ≡ Some y
    → None ≡ place_of (level n) (binders b)
named_has_none b n x y low high e named = sym (number_of_item b n x low high e ∙ ap (λ o. option_map_or (λ y. None) o (Some (length b.bound.items - n))) named)

pub no_number : (b : Binders) (n : ℕ) → n ≡ 0 → None ≡ place_of (level n) (binders b)
no_number b n e = sym (ap (λ m. place_of (level m) (binders b)) e ∙ nothing (reverse b.bound.items))

pub number_past : (b : Binders) (n : ℕ) → length b.bound.items < n → None ≡ place_of (level n) (binders b)
number_past b n h = sym (beyond (reverse b.bound.items) n (let r = length-reverse b.bound.items in omega (arith, r, h)))

pub ruleset numbered = (numbered_place, named_has_none, no_number, number_past)

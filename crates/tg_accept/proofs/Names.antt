-- Names that aren't taken stay distinct.
use Rattle.std.proofs.Common.{ℕ, ◌≡◌, ◌⊎◌, Bool, true, false, List, [], ◌∷◌, ◌++◌, Some, None, refl, sym, ◌∙◌, ap, subst, inl, inr, if◌then◌else◌, append_assoc}
use Rattle.std.specs.Str.{bytes_eq}
use Rattle.std.proofs.lemmas.Slice.Eq.{bytes_eq-Decides}
use Rattle.tg_model.specs.Accepted.{IsAmong, AreDistinct}
use Rattle.tg_model.proofs.Booleans.{or_left, or_right}
use Rattle.tg_accept.specs.Faults.{is_taken, first_taken}

abbrev Name : Type 0
Name = List ℕ

pub taken_if : (x : Name) (ys : List Name) → IsAmong x ys → is_taken x ys ≡ true
taken_if x [] h = absurd h
taken_if x (y ∷ ys) (inl e) = or_left (bytes_eq x y) (is_taken x ys) ((bytes_eq-Decides x y).1 e)
taken_if x (y ∷ ys) (inr h) = or_right (bytes_eq x y) (is_taken x ys) (taken_if x ys h)

pub not_among : (x : Name) (ys : List Name) → is_taken x ys ≡ false → ¬ (IsAmong x ys)
not_among x ys e h = let q : true ≡ false = sym (taken_if x ys h) ∙ e in cc q

pub among_left : (x : Name) (xs ys : List Name) → IsAmong x xs → IsAmong x (xs ++ ys)
among_left x [] ys h = absurd h
among_left x (y ∷ xs) ys (inl e) = inl e
among_left x (y ∷ xs) ys (inr h) = inr (among_left x xs ys h)

pub among_right : (x : Name) (xs ys : List Name) → IsAmong x ys → IsAmong x (xs ++ ys)
among_right x [] ys h = h
among_right x (y ∷ xs) ys h = inr (among_right x xs ys h)

pub among_either : (x : Name) (xs ys : List Name) → IsAmong x (xs ++ ys) → IsAmong x xs ⊎ IsAmong x ys
among_either x [] ys h = inr h
among_either x (y ∷ xs) ys (inl e) = inl (inl e)
among_either x (y ∷ xs) ys (inr h) = elim (among_either x xs ys h) [ inl p ↦ inl (inr p) | inr p ↦ inr p ]

-- one name put between two lists
put_between : (n : Name) (xs ys : List Name) → AreDistinct (xs ++ ys) → ¬ (IsAmong n (xs ++ ys)) → AreDistinct (xs ++ n ∷ ys)
put_between n [] ys d h = (h, d)
put_between n (x ∷ xs) ys d h = (by, put_between n xs ys d.1 (λ p. h (inr p)))
  where
    by : ¬ (IsAmong x (xs ++ n ∷ ys))
    by p = elim (among_either x xs (n ∷ ys) p) [
      | inl q ↦ d.0 (among_left x xs ys q)
      | inr q ↦ elim q [ inl e ↦ h (inl (sym e)) | inr r ↦ d.0 (among_right x xs ys r) ]
    ]

-- what is among the names of a larger list
abbrev Within : List Name → List Name → Type 0
Within xs ys = (x : Name) → IsAmong x xs → IsAmong x ys

grown : (n : Name) (xs ys zs : List Name) → Within (xs ++ ys) zs → Within ((xs ++ n ∷ []) ++ ys) (n ∷ zs)
grown n xs ys zs w x h = elim (among_either x (xs ++ n ∷ []) ys h) [
  | inl p ↦ elim (among_either x xs (n ∷ []) p) [ inl q ↦ inr (w x (among_left x xs ys q)) | inr q ↦ elim q [ inl e ↦ inl e | inr r ↦ absurd r ] ]
  | inr p ↦ inr (w x (among_right x xs ys p))
]

none_taken : (x : Name) (ys xs : List Name) (b : Bool) → is_taken x ys ≡ b
    → (if b then Some x else first_taken (x ∷ ys) xs) ≡ None → (b ≡ false) × (first_taken (x ∷ ys) xs ≡ None)
none_taken x ys xs true e h = cc h
none_taken x ys xs false e h = (refl, h)

-- new names none of which is taken, put between two lists
pub put_all : (ns zs xs ys : List Name) → Within (xs ++ ys) zs → AreDistinct (xs ++ ys) → first_taken zs ns ≡ None → AreDistinct ((xs ++ ns) ++ ys)
put_all [] zs xs ys w d h = subst AreDistinct (ap (λ l. l ++ ys) (sym (nil xs))) d
  where
    nil : (xs : List Name) → xs ++ [] ≡ xs
    nil [] = refl
    nil (x ∷ xs) = ap (λ l. x ∷ l) (nil xs)
put_all (n ∷ ns) zs xs ys w d h =
    let t = none_taken n zs ns (is_taken n zs) refl h in
    let fresh : ¬ (IsAmong n (xs ++ ys)) = λ p. not_among n zs t.0 (w n p) in
    let d' : AreDistinct ((xs ++ n ∷ []) ++ ys) = subst AreDistinct (sym (append_assoc xs (n ∷ []) ys)) (put_between n xs ys d fresh) in
    subst AreDistinct (ap (λ l. l ++ ys) (append_assoc xs (n ∷ []) ns)) (put_all ns (n ∷ zs) (xs ++ n ∷ []) ys (grown n xs ys zs w) d' t.1)

-- one name more at the end of the first list
pub put_one : (n : Name) (xs ys : List Name) → AreDistinct (xs ++ ys) → is_taken n (xs ++ ys) ≡ false → AreDistinct ((xs ++ n ∷ []) ++ ys)
put_one n xs ys d h = subst AreDistinct (sym (append_assoc xs (n ∷ []) ys)) (put_between n xs ys d (not_among n (xs ++ ys) h))

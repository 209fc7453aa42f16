-- What holds of each item of a list, of both parts of it, and of its images.
use Rattle.std.proofs.Common.{inl, inr, List, [], ◌∷◌, ◌++◌, map, refl, sym, subst}
use Rattle.std.specs.List.{flat_map}
use Rattle.tg_model.specs.Accepted.{IsAmong}
use Rattle.tg_accept.specs.Checks.{Each}

module _ {A : Type 0} (P : A → Type 0) where
  pub each_left : (xs ys : List A) → Each P (xs ++ ys) → Each P xs
  each_left [] ys h = tt
  each_left (x ∷ xs) ys h = (h.0, each_left xs ys h.1)

  pub each_right : (xs ys : List A) → Each P (xs ++ ys) → Each P ys
  each_right [] ys h = h
  each_right (x ∷ xs) ys h = each_right xs ys h.1

  pub each_both : (xs ys : List A) → Each P xs → Each P ys → Each P (xs ++ ys)
  each_both [] ys h k = k
  each_both (x ∷ xs) ys h k = (h.0, each_both xs ys h.1 k)

  pub each_among : (xs : List A) (x : A) → Each P xs → IsAmong x xs → P x
  each_among [] x h k = absurd k
  each_among (y ∷ ys) x h (inl e) = subst P (sym e) h.0
  each_among (y ∷ ys) x h (inr k) = each_among ys x h.1 k

  pub each_of : (xs ys : List A) → Each P ys → Each (λ x. IsAmong x ys) xs → Each P xs
  each_of [] ys h k = tt
  each_of (x ∷ xs) ys h k = (each_among ys x h k.0, each_of xs ys h k.1)

  pub each_flat : {B : Type 0} (f : B → List A) (bs : List B) → Each (λ b. Each P (f b)) bs → Each P (flat_map f bs)
  each_flat f [] h = tt
  each_flat f (b ∷ bs) h = each_both (f b) (flat_map f bs) h.0 (each_flat f bs h.1)

pub each_map : {A B : Type 0} (P : B → Type 0) (f : A → B) (xs : List A) → Each (λ x. P (f x)) xs → Each P (map f xs)
each_map P f [] h = tt
each_map P f (x ∷ xs) h = (h.0, each_map P f xs h.1)

pub each_mapped : {A B : Type 0} (P : B → Type 0) (f : A → B) (xs : List A) → Each P (map f xs) → Each (λ x. P (f x)) xs
each_mapped P f [] h = tt
each_mapped P f (x ∷ xs) h = (h.0, each_mapped P f xs h.1)

pub each_given : {A : Type 0} (P Q : A → Type 0) (xs : List A) → ((x : A) → P x → Q x) → Each P xs → Each Q xs
each_given P Q [] f h = tt
each_given P Q (x ∷ xs) f h = (f x h.0, each_given P Q xs f h.1)

pub among_itself : {A : Type 0} (Q : A → Type 0) (xs : List A) → ((x : A) → IsAmong x xs → Q x) → Each Q xs
among_itself Q [] f = tt
among_itself Q (x ∷ xs) f = (f x (inl refl), among_itself Q xs (λ y k. f y (inr k)))

-- What holds of each item of a list, through appending, filtering and mapping.
use Rattle.std.proofs.Common.{◌≡◌, Bool, true, false, List, [], ◌∷◌, ◌++◌, map, refl}
use Rattle.std.specs.Prelude.{cond}
use Rattle.std.specs.List.{filter, flat_map}
use Rattle.tg_accept.specs.Checks.{Each}

pub each_all : {A : Type 0} (P : A → Type 0) → ((x : A) → P x) → (xs : List A) → Each P xs
each_all P f [] = tt
each_all P f (x ∷ xs) = (f x, each_all P f xs)

pub each_on : {A : Type 0} (P Q : A → Type 0) → ((x : A) → P x → Q x) → (xs : List A) → Each P xs → Each Q xs
each_on P Q f [] h = tt
each_on P Q f (x ∷ xs) h = (f x h.0, each_on P Q f xs h.1)

pub each_under : {A : Type 0} (K : Type 0) (P : A → Type 0) (xs : List A) → (K → Each P xs) → Each (λ x. K → P x) xs
each_under K P [] h = tt
each_under K P (x ∷ xs) h = (λ k. (h k).0, each_under K P xs (λ k. (h k).1))

pub each_both : {A : Type 0} (P Q R : A → Type 0) → ((x : A) → P x → Q x → R x) → (xs : List A) → Each P xs → Each Q xs → Each R xs
each_both P Q R f [] h k = tt
each_both P Q R f (x ∷ xs) h k = (f x h.0 k.0, each_both P Q R f xs h.1 k.1)

pub each_append : {A : Type 0} (P : A → Type 0) (xs ys : List A) → Each P xs → Each P ys → Each P (xs ++ ys)
each_append P [] ys h k = k
each_append P (x ∷ xs) ys h k = (h.0, each_append P xs ys h.1 k)

pub each_first : {A : Type 0} (P : A → Type 0) (xs ys : List A) → Each P (xs ++ ys) → Each P xs
each_first P [] ys h = tt
each_first P (x ∷ xs) ys h = (h.0, each_first P xs ys h.1)

pub each_rest : {A : Type 0} (P : A → Type 0) (xs ys : List A) → Each P (xs ++ ys) → Each P ys
each_rest P [] ys h = h
each_rest P (x ∷ xs) ys h = each_rest P xs ys h.1

pub each_map : {A B : Type 0} (P : B → Type 0) (f : A → B) (xs : List A) → Each (λ x. P (f x)) xs → Each P (map f xs)
each_map P f [] h = tt
each_map P f (x ∷ xs) h = (h.0, each_map P f xs h.1)

pub each_unmap : {A B : Type 0} (P : B → Type 0) (f : A → B) (xs : List A) → Each P (map f xs) → Each (λ x. P (f x)) xs
each_unmap P f [] h = tt
each_unmap P f (x ∷ xs) h = (h.0, each_unmap P f xs h.1)

pub each_flat_map : {A B : Type 0} (P : B → Type 0) (f : A → List B) (xs : List A) → Each (λ x. Each P (f x)) xs → Each P (flat_map f xs)
each_flat_map P f [] h = tt
each_flat_map P f (x ∷ xs) h = each_append P (f x) (flat_map f xs) h.0 (each_flat_map P f xs h.1)

module _ {A : Type 0} (P : A → Type 0) (p : A → Bool) where
  put : (b : Bool) (x : A) (xs : List A) → (b ≡ true → P x) → Each P xs → Each P (cond b (x ∷ xs) xs)
  put true x xs h k = (h refl, k)
  put false x xs h k = k

  pub each_filter : (xs : List A) → Each (λ x. p x ≡ true → P x) xs → Each P (filter p xs)
  each_filter [] h = tt
  each_filter (x ∷ xs) h = put (p x) x (filter p xs) h.0 (each_filter xs h.1)

  taken : (b : Bool) (x : A) (xs : List A) → Each P (cond b (x ∷ xs) xs) → (b ≡ true → P x) × Each P xs
  taken true x xs h = (λ e. h.0, h.1)
  taken false x xs h = (λ e. absurd (cc e), h)

  pub each_kept : (xs : List A) → Each P (filter p xs) → Each (λ x. p x ≡ true → P x) xs
  each_kept [] h = tt
  each_kept (x ∷ xs) h = let r = taken (p x) x (filter p xs) h in (r.0, each_kept xs r.1)

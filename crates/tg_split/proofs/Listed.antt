-- How many items of a list have a property.
use Rattle.std.proofs.Common.{List, [], ◌∷◌, ◌++◌, map, inl, inr}
use Rattle.tg_split.specs.Laws.{NoneOf, OneOf, AllOf}

module _ {A : Type 0} (P : A → Type 0) where
  pub none_all : ((x : A) → ¬ (P x)) → (xs : List A) → NoneOf P xs
  none_all not_one [] = tt
  none_all not_one (x ∷ xs) = (not_one x, none_all not_one xs)

  pub none_both : (xs ys : List A) → NoneOf P xs → NoneOf P ys → NoneOf P (xs ++ ys)
  none_both [] ys h k = k
  none_both (x ∷ xs) ys h k = (h.0, none_both xs ys h.1 k)

  pub one_left : (xs ys : List A) → OneOf P xs → NoneOf P ys → OneOf P (xs ++ ys)
  one_left [] ys h k = absurd h
  one_left (x ∷ xs) ys h k = elim h [
    | inl p ↦ inl (p.0, none_both xs ys p.1 k)
    | inr q ↦ inr (q.0, one_left xs ys q.1 k)
  ]

  pub one_right : (xs ys : List A) → NoneOf P xs → OneOf P ys → OneOf P (xs ++ ys)
  one_right [] ys h k = k
  one_right (x ∷ xs) ys h k = inr (h.0, one_right xs ys h.1 k)

  pub all_items : ((x : A) → P x) → (xs : List A) → AllOf P xs
  all_items each [] = tt
  all_items each (x ∷ xs) = (each x, all_items each xs)

-- a property of what a function gives, where the items have it exactly as `Q` tells
module _ {A B : Type 0} (f : A → B) (P : B → Type 0) (Q : A → Type 0) (from : (x : A) → P (f x) → Q x) where
  pub none_mapped : (xs : List A) → NoneOf Q xs → NoneOf P (map f xs)
  none_mapped [] h = tt
  none_mapped (x ∷ xs) h = (λ p. h.0 (from x p), none_mapped xs h.1)

  pub one_mapped : ((x : A) → Q x → P (f x)) → (xs : List A) → OneOf Q xs → OneOf P (map f xs)
  one_mapped to [] h = absurd h
  one_mapped to (x ∷ xs) h = elim h [
    | inl p ↦ inl (to x p.0, none_mapped xs p.1)
    | inr q ↦ inr (λ p. q.0 (from x p), one_mapped to xs q.1)
  ]

pub all_mapped : {A B : Type 0} (f : A → B) (P : B → Type 0) → ((x : A) → P (f x)) → (xs : List A) → AllOf P (map f xs)
all_mapped f P each [] = tt
all_mapped f P each (x ∷ xs) = (each x, all_mapped f P each xs)

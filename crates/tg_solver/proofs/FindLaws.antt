-- The first element that passes a test.
use Rattle.std.proofs.Common.{◌≡◌, Bool, true, false, ◌&&◌, cond, List, [], ◌∷◌, map, Option, Some, None, option_map, refl, ap, ◌∙◌, All}
use Rattle.std.specs.Option.{option_or}
use Rattle.std.specs.List.{find, filter, flat_map}
use Rattle.std.proofs.lemmas.List.Elements.{All-head, All-tail, All-nil, All-append}

pub none_passes : {X : Type 0} (p : X → Bool) → ((x : X) → p x ≡ false) → (xs : List X) → find p xs ≡ None
none_passes p h [] = refl
none_passes p h (x ∷ xs) = ap (λ b. cond b (Some x) (find p xs)) (h x) ∙ none_passes p h xs

pub find_of_map : {X Y : Type 0} (p : Y → Bool) (f : X → Y) (xs : List X) → find p (map f xs) ≡ option_map f (find (λ x. p (f x)) xs)
find_of_map p f [] = refl
find_of_map p f (x ∷ xs) = by (p (f x)) (find_of_map p f xs)
  where
    by : (b : Bool) → find p (map f xs) ≡ option_map f (find (λ x. p (f x)) xs)
        → cond b (Some (f x)) (find p (map f xs)) ≡ option_map f (cond b (Some x) (find (λ x. p (f x)) xs))
    by true rest = refl
    by false rest = rest

pub find_of_filter : {X : Type 0} (p q : X → Bool) (xs : List X) → find p (filter q xs) ≡ find (λ x. q x && p x) xs
find_of_filter p q [] = refl
find_of_filter p q (x ∷ xs) = by (q x) (find_of_filter p q xs)
  where
    by : (b : Bool) → find p (filter q xs) ≡ find (λ x. q x && p x) xs
        → find p (cond b (x ∷ filter q xs) (filter q xs)) ≡ cond (b && p x) (Some x) (find (λ x. q x && p x) xs)
    by true rest = ap (cond (p x) (Some x)) rest
    by false rest = rest

pub same_test : {X : Type 0} (p q : X → Bool) → ((x : X) → p x ≡ q x) → (xs : List X) → find p xs ≡ find q xs
same_test p q h [] = refl
same_test p q h (x ∷ xs) = λ i. cond (h x i) (Some x) (same_test p q h xs i)

-- the tests need to agree only at what the list has
pub same_test_within : {X : Type 0} (P : X → Type 0) (p q : X → Bool) → ((x : X) → P x → p x ≡ q x) → (xs : List X) → All P xs → find p xs ≡ find q xs
same_test_within P p q h [] all = refl
same_test_within P p q h (x ∷ xs) all = λ i. cond (h x (All-head P x xs all) i) (Some x) (same_test_within P p q h xs (All-tail P x xs all) i)

pub none_passes_within : {X : Type 0} (P : X → Type 0) (p : X → Bool) → ((x : X) → P x → p x ≡ false) → (xs : List X) → All P xs → find p xs ≡ None
none_passes_within P p h xs all = same_test_within P p (λ x. false) h xs all ∙ none_passes (λ x. false) (λ x. refl) xs

pub all_of_flat_map : {X Y : Type 0} (P : Y → Type 0) (f : X → List Y) → ((x : X) → All P (f x)) → (xs : List X) → All P (flat_map f xs)
all_of_flat_map P f h [] = All-nil P
all_of_flat_map P f h (x ∷ xs) = All-append P (f x) (flat_map f xs) (h x) (all_of_flat_map P f h xs)

pub or_none : {X : Type 0} (o : Option X) → option_or o None ≡ o
or_none None = refl
or_none (Some x) = refl

pub or_assoc : {X : Type 0} (o p q : Option X) → option_or (option_or o p) q ≡ option_or o (option_or p q)
or_assoc None p q = refl
or_assoc (Some x) p q = refl

-- Lists of which each item has a meaning.
use Rattle.std.proofs.Common.{ℕ, suc, ◌≡◌, ◌+◌, List, [], ◌∷◌, ◌++◌, map, drop, Option, Some, None, refl, sym, ◌∙◌, ap, subst, arith, append_assoc}
use Rattle.std.specs.Prelude.{option_map, option_and_then, slice_get}
use Rattle.std.proofs.lemmas.List.{map-append}
use Rattle.tg_accept.specs.Meaning.{each_meant}
use Rattle.tg_term.proofs.PartLaws.{drop_at}

-- `all` are the meanings of the items before the rest
pub record StandsEach {A B : Type 0} (f : A → Option B) (xs : List A) (all : List B) (rest : List A) : Type 0 where
  pub is : each_meant f xs ≡ option_map (λ ys. all ++ ys) (each_meant f rest)

pub each_first : {A B : Type 0} (f : A → Option B) (xs : List A) → StandsEach f xs [] xs
each_first f xs = record { is = same (each_meant f xs) }
  where
    same : {B : Type 0} (o : Option (List B)) → o ≡ option_map (λ ys. [] ++ ys) o
    same None = refl
    same (Some ys) = refl

each_more : {B : Type 0} (all : List B) (y : B) (o : Option (List B)) → option_map (λ ys. all ++ ys) (option_map (λ ys. y ∷ ys) o) ≡ option_map (λ ys. (all ++ y ∷ []) ++ ys) o
each_more all y None = refl
each_more all y (Some ys) = ap Some (sym (append_assoc all (y ∷ []) ys))

rest_of : {A X : Type 0} (raw : A → X) (ts : List A) (i : ℕ) (t : A) → slice_get ts i ≡ Some t → map raw (drop i ts) ≡ raw t ∷ map raw (drop (i + 1) ts)
rest_of raw ts i t e = ap (map raw) (drop_at ts i t e ∙ ap (λ n. t ∷ drop n ts) (let s : suc i ≡ i + 1 = omega arith in s))

pub each_next : {A X B Y : Type 0} (f : X → Option Y) (raw : A → X) (view : B → Y) (ts : List A) (all all' : List B) (i : ℕ) (t : A) (u : B) → slice_get ts i ≡ Some t
    → StandsEach f (map raw ts) (map view all) (map raw (drop i ts)) → Some (view u) ≡ f (raw t) → all' ≡ all ++ u ∷ []
    → StandsEach f (map raw ts) (map view all') (map raw (drop (i + 1) ts))
each_next f raw view ts all all' i t u at h e more = record {
  is =
      h.is ∙ ap (λ l. option_map (λ ys. map view all ++ ys) (each_meant f l)) (rest_of raw ts i t at)
      ∙ ap (λ o. option_map (λ ys. map view all ++ ys) (option_and_then (λ y. option_map (λ ys. y ∷ ys) (each_meant f (map raw (drop (i + 1) ts)))) o)) (sym e)
      ∙ each_more (map view all) (view u) (each_meant f (map raw (drop (i + 1) ts)))
      ∙ ap (λ l. option_map (λ ys. l ++ ys) (each_meant f (map raw (drop (i + 1) ts)))) (sym (ap (map view) more ∙ map-append view all (u ∷ [])));
}

pub each_none : {A X B Y : Type 0} (f : X → Option Y) (raw : A → X) (view : B → Y) (ts : List A) (all : List B) (i : ℕ) (t : A) → slice_get ts i ≡ Some t
    → StandsEach f (map raw ts) (map view all) (map raw (drop i ts)) → None ≡ f (raw t) → None ≡ each_meant f (map raw ts)
each_none f raw view ts all i t at h e =
    sym (h.is ∙ ap (λ l. option_map (λ ys. map view all ++ ys) (each_meant f l)) (rest_of raw ts i t at)
    ∙ ap (λ o. option_map (λ ys. map view all ++ ys) (option_and_then (λ y. option_map (λ ys. y ∷ ys) (each_meant f (map raw (drop (i + 1) ts)))) o)) (sym e))

pub each_last : {A B : Type 0} (f : A → Option B) (xs : List A) (all : List B) → StandsEach f xs all [] → Some all ≡ each_meant f xs
each_last f xs all h = sym (h.is ∙ ap Some (all_of all))
  where
    all_of : {B : Type 0} (ys : List B) → ys ++ [] ≡ ys
    all_of [] = refl
    all_of (y ∷ ys) = ap (λ l. y ∷ l) (all_of ys)

pub ruleset each = (each_first)

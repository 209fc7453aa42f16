-- Lists of typed terms: at places, without one, one after another.
use Rattle.std.proofs.Common.{ℕ, zero, suc, ◌≡◌, ◌-◌, List, [], ◌∷◌, ◌++◌, map, length, take, drop, Some, refl, ◌∙◌, ap, subst}
use Rattle.std.specs.Prelude.{slice_get}
use Rattle.tg_model.specs.Tree as tree
use Rattle.tg_model.specs.Tree.{Tree, Trees, elements}
use Rattle.tg_model.specs.Types.{Ty}
use Rattle.tg_model.specs.Value.{Value}
use Rattle.tg_model.specs.Theory.{Theory, numbered}
use Rattle.tg_model.specs.Denotation.{World, value_in, values_in, others}
use Rattle.tg_model.specs.TermTyping.{AllTyped, AreListTyped, IsTyped}

pub values_map : (w : World) (env loc : List Value) (ts : Trees) → values_in w env loc ts ≡ map (value_in w env loc) (elements ts)
values_map w env loc tree.none = refl
values_map w env loc (tree.more t ts) = ap (λ l. value_in w env loc t ∷ l) (values_map w env loc ts)

map_take : {A B : Type 0} (f : A → B) (k : ℕ) (xs : List A) → map f (take k xs) ≡ take k (map f xs)
map_take f zero xs = refl
map_take f (suc k) [] = refl
map_take f (suc k) (x ∷ xs) = ap (λ l. f x ∷ l) (map_take f k xs)

map_drop : {A B : Type 0} (f : A → B) (k : ℕ) (xs : List A) → map f (drop k xs) ≡ drop k (map f xs)
map_drop f zero xs = refl
map_drop f (suc k) [] = refl
map_drop f (suc k) (x ∷ xs) = map_drop f k xs

pub map_append : {A B : Type 0} (f : A → B) (xs ys : List A) → map f (xs ++ ys) ≡ map f xs ++ map f ys
map_append f [] ys = refl
map_append f (x ∷ xs) ys = ap (λ l. f x ∷ l) (map_append f xs ys)

pub map_others : {A B : Type 0} (f : A → B) (xs : List A) (k : ℕ) → map f (others xs k) ≡ others (map f xs) k
map_others f xs k = map_append f (take (k - 1) xs) (drop k xs) ∙ (λ i. map_take f (k - 1) xs i ++ map_drop f k xs i)

module _ (th : Theory) (vars locs : List Ty) where
  pub listed_typed : (ts : Trees) (as' : List Ty) → AllTyped th vars locs ts as' → AreListTyped th vars locs (elements ts) as'
  listed_typed tree.none [] h = tt
  listed_typed tree.none (a ∷ as') h = absurd h
  listed_typed (tree.more t ts) [] h = absurd h
  listed_typed (tree.more t ts) (a ∷ as') h = (h.0, listed_typed ts as' h.1)

  pub append_typed : (ts us : List Tree) (as' bs : List Ty) → AreListTyped th vars locs ts as' → AreListTyped th vars locs us bs
      → AreListTyped th vars locs (ts ++ us) (as' ++ bs)
  append_typed [] us [] bs h k = k
  append_typed [] us (a ∷ as') bs h k = absurd h
  append_typed (t ∷ ts) us [] bs h k = absurd h
  append_typed (t ∷ ts) us (a ∷ as') bs h k = (h.0, append_typed ts us as' bs h.1 k)

  take_typed : (k : ℕ) (ts : List Tree) (as' : List Ty) → AreListTyped th vars locs ts as' → AreListTyped th vars locs (take k ts) (take k as')
  take_typed zero ts as' h = tt
  take_typed (suc k) [] [] h = tt
  take_typed (suc k) [] (a ∷ as') h = absurd h
  take_typed (suc k) (t ∷ ts) [] h = absurd h
  take_typed (suc k) (t ∷ ts) (a ∷ as') h = (h.0, take_typed k ts as' h.1)

  drop_typed : (k : ℕ) (ts : List Tree) (as' : List Ty) → AreListTyped th vars locs ts as' → AreListTyped th vars locs (drop k ts) (drop k as')
  drop_typed zero ts as' h = h
  drop_typed (suc k) [] [] h = tt
  drop_typed (suc k) [] (a ∷ as') h = absurd h
  drop_typed (suc k) (t ∷ ts) [] h = absurd h
  drop_typed (suc k) (t ∷ ts) (a ∷ as') h = drop_typed k ts as' h.1

  pub others_typed : (k : ℕ) (ts : List Tree) (as' : List Ty) → AreListTyped th vars locs ts as' → AreListTyped th vars locs (others ts k) (others as' k)
  others_typed k ts as' h = append_typed (take (k - 1) ts) (drop k ts) (take (k - 1) as') (drop k as') (take_typed (k - 1) ts as' h) (drop_typed k ts as' h)

  at_place : (k : ℕ) (ts : List Tree) (as' : List Ty) (t : Tree) (a : Ty) → AreListTyped th vars locs ts as' → slice_get ts k ≡ Some t → slice_get as' k ≡ Some a
      → IsTyped th vars locs t a
  at_place k [] as' t a h e f = cc e
  at_place k (u ∷ ts) [] t a h e f = cc f
  at_place zero (u ∷ ts) (b ∷ as') t a h e f =
      let p : u ≡ t = cc e in let q : b ≡ a = cc f in subst (λ x. IsTyped th vars locs x a) p (subst (λ y. IsTyped th vars locs u y) q h.0)
  at_place (suc k) (u ∷ ts) (b ∷ as') t a h e f = at_place k ts as' t a h.1 e f

  pub typed_at_place : (k : ℕ) (ts : List Tree) (as' : List Ty) (t : Tree) (a : Ty) → AreListTyped th vars locs ts as' → numbered ts k ≡ Some t → numbered as' k ≡ Some a
      → IsTyped th vars locs t a
  typed_at_place zero ts as' t a h e f = cc e
  typed_at_place (suc k) ts as' t a h e f = at_place k ts as' t a h e f

  pub as_long : (ts : List Tree) (as' : List Ty) → AreListTyped th vars locs ts as' → length ts ≡ length as'
  as_long [] [] h = refl
  as_long [] (a ∷ as') h = absurd h
  as_long (t ∷ ts) [] h = absurd h
  as_long (t ∷ ts) (a ∷ as') h = ap suc (as_long ts as' h.1)

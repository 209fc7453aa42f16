-- The patterns of an accepted theory are typed.
use Rattle.std.proofs.Common.{ℕ, zero, suc, ◌≡◌, ◌<◌, ◌≤◌, ◌+◌, inl, inr, List, [], ◌∷◌, ◌++◌, map, length, Option, Some, refl, sym, ◌∙◌, ap, ap₂, subst, arith, append_assoc, append-nil, length-append}
use Rattle.std.specs.Prelude.{slice_get, unwrap_or}
use Rattle.std.specs.Option.{option_map_or}
use Rattle.std.proofs.lemmas.Option.{none-some, same_Some}
use Rattle.tg_model.specs.Tree as tree
use Rattle.tg_model.specs.Tree.{Tree, Trees, free, con}
use Rattle.tg_model.specs.Types as types
use Rattle.tg_model.specs.Types.{Ty, nat, bool, parameter, meta, applied, Tys, tys, elements}
use Rattle.tg_model.specs.Value.{Value, made, values}
use Rattle.tg_model.specs.Theory.{Theory, Datatype, Constructor, Owned, constructor_at, first_constructor, numbered, instance, instances, IsClosed, AreClosed}
use Rattle.tg_model.specs.Denotation.{World, world, value_in, values_in}
use Rattle.tg_model.specs.TermTyping.{Typing, Typings, leaf, instanced, type_of, types_of, IsTyping, AreTypings, IsTyped, AllTyped, IsDatatype}
use Rattle.tg_model.specs.TermTyping as typing
use Rattle.tg_model.specs.WellTyped.{IsBefore, AreBefore}
use Rattle.tg_model.specs.Accepted.{IsAccepted, IsArgument, AreArguments, AreConstructors, parameters_from}
use Rattle.tg_model.specs.Filling.{filled_term, fill}
use Rattle.tg_model.proofs.Constructors.{numbers_are_places}
use Rattle.tg_split.specs.Shapes.{Shape, Shapes, hole, node, none, more, product, products, of_constructors, of_type}
use Rattle.tg_split.specs.Patterns.{Input, pattern_of, patterns, of_input, to_depth, holes, all_holes, term_from, terms_from}
use Rattle.tg_split.specs.Laws.{AllOf, IsPatternOf, PatternsAreTyped, EachPatternIsTyped}
use Rattle.tg_split.proofs.Filled.{shapes_made}

-- ---- types at closed arguments

tys_elements : (ts : Tys) → tys (elements ts) ≡ ts
tys_elements types.none = refl
tys_elements (types.more t ts) = ap (types.more t) (tys_elements ts)

closed_item : (th : Theory) (us : List Ty) (n : ℕ) → AreClosed th (tys us) → n < length us → IsClosed th (unwrap_or (slice_get us n) nat)
closed_item th [] n h low = absurd (omega (arith, low))
closed_item th (u ∷ us) zero h low = h.0
closed_item th (u ∷ us) (suc n) h low = closed_item th us n h.1 (omega (arith, low))

count_instances : (us : List Ty) (ts : Tys) → length (elements (instances us ts)) ≡ length (elements ts)
count_instances us types.none = refl
count_instances us (types.more t ts) = ap suc (count_instances us ts)

module _ (th : Theory) (d params : ℕ) (us : List Ty) (closed : AreClosed th (tys us)) (count : length us ≡ params) where
  mutual
    closed_at : (t : Ty) → IsBefore th d params t → IsClosed th (instance us t)
    closed_at nat h = tt
    closed_at bool h = tt
    closed_at (parameter zero) h = absurd (let low = h.0 in omega (arith, low))
    closed_at (parameter (suc n)) h = closed_item th us n closed (let high = h.1 in omega (arith, high, count))
    closed_at (meta n) h = absurd h
    closed_at (applied e ts) h = let x = h.0.1 in ((x.0, x.1, count_instances us ts ∙ x.2), all_closed_at ts h.1)

    all_closed_at : (ts : Tys) → AreBefore th d params ts → AreClosed th (instances us ts)
    all_closed_at types.none h = tt
    all_closed_at (types.more t ts) h = (closed_at t h.0, all_closed_at ts h.1)

  own_parameters : (n k : ℕ) → 0 < n → n + k ≤ suc params → AreBefore th d params (tys (parameters_from n k))
  own_parameters n zero low high = tt
  own_parameters n (suc k) low high = ((low, omega (arith, high)), own_parameters (suc n) k (omega arith) (omega (arith, high)))

  count_parameters : (n k : ℕ) → length (elements (tys (parameters_from n k))) ≡ k
  count_parameters n zero = refl
  count_parameters n (suc k) = ap suc (count_parameters (suc n) k)

  module _ (x : Datatype) (is : numbered th.datatypes d ≡ Some x) (parameters : x.parameters ≡ params) where
    argument_closed : (t : Ty) → IsArgument th d params t → IsClosed th (instance us t)
    argument_closed t (inl before) = closed_at t before
    argument_closed t (inr itself) =
        let ts : Tys = tys (parameters_from 1 params) in
        let data_closed : IsClosed th (instance us (applied d ts)) =
        ((x, is, count_instances us ts ∙ count_parameters 1 params ∙ sym parameters), all_closed_at ts (own_parameters 1 params (omega arith) (omega arith))) in
        subst (λ u. IsClosed th (instance us u)) (sym itself) data_closed

    arguments_closed : (ts : List Ty) → AreArguments th d params ts → AreClosed th (tys (map (instance us) ts))
    arguments_closed [] h = tt
    arguments_closed (t ∷ ts) h = (argument_closed t h.0, arguments_closed ts h.1)

-- ---- shapes of a type

module _ (th : Theory) where
  abbrev mutual
    pub IsOf : Shape → Ty → Type 0
    IsOf (hole u) t = (u ≡ t) × IsClosed th u
    IsOf (node c ss) t =
        (o : Owned) × (constructor_at th c ≡ Some o)
        × ((us : List Ty) × IsDatatype th o.datatype us × (t ≡ applied o.datatype (tys us)) × AreOf ss (map (instance us) o.constructor.arguments))

    pub AreOf : Shapes → List Ty → Type 0
    AreOf none [] = Unit {0}
    AreOf none (t ∷ ts) = ⊥
    AreOf (more s ss) [] = ⊥
    AreOf (more s ss) (t ∷ ts) = IsOf s t × AreOf ss ts

all_both : {A : Type 0} (P : A → Type 0) (xs ys : List A) → AllOf P xs → AllOf P ys → AllOf P (xs ++ ys)
all_both P [] ys h k = k
all_both P (x ∷ xs) ys h k = (h.0, all_both P xs ys h.1 k)

all_made : {A B : Type 0} (P : A → Type 0) (Q : B → Type 0) (f : A → B) → ((x : A) → P x → Q (f x)) → (xs : List A) → AllOf P xs → AllOf Q (map f xs)
all_made P Q f each [] h = tt
all_made P Q f each (x ∷ xs) h = (each x h.0, all_made P Q f each xs h.1)

module _ (th : Theory) where
  typed_product : (t : Ty) (ts : List Ty) (ss : List Shape) (sss : List Shapes) → AllOf (λ s. IsOf th s t) ss → AllOf (λ r. AreOf th r ts) sss
      → AllOf (λ r. AreOf th r (t ∷ ts)) (product ss sss)
  typed_product t ts [] sss h k = tt
  typed_product t ts (s ∷ ss) sss h k =
      all_both (λ r. AreOf th r (t ∷ ts)) (map (more s) sss) (product ss sss)
      (all_made (λ r. AreOf th r ts) (λ r. AreOf th r (t ∷ ts)) (more s) (λ r q. (h.0, q)) sss k) (typed_product t ts ss sss h.1 k)

  -- shapes of items, each of the item's type
  module _ {A : Type 0} (f : A → List Shape) (of : A → Ty) (each : (x : A) → IsClosed th (of x) → AllOf (λ s. IsOf th s (of x)) (f x)) where
    typed_products : (xs : List A) → AreClosed th (tys (map of xs)) → AllOf (λ r. AreOf th r (map of xs)) (products f xs)
    typed_products [] h = (tt, tt)
    typed_products (x ∷ xs) h = typed_product (of x) (map of xs) (f x) (products f xs) (each x h.0) (typed_products xs h.1)

  same_types : (ts : List Ty) → map (λ t. t) ts ≡ ts
  same_types [] = refl
  same_types (t ∷ ts) = ap (λ l. t ∷ l) (same_types ts)

  products_of_types : (f : Ty → List Shape) → ((t : Ty) → IsClosed th t → AllOf (λ s. IsOf th s t) (f t)) → (ts : List Ty) → AreClosed th (tys ts)
      → AllOf (λ r. AreOf th r ts) (products f ts)
  products_of_types f each ts h =
      subst (λ us. AllOf (λ r. AreOf th r us) (products f ts)) (same_types ts)
      (typed_products f (λ t. t) each ts (subst (λ us. AreClosed th (tys us)) (sym (same_types ts)) h))

  module _ (f : Ty → List Shape) (each : (t : Ty) → IsClosed th t → AllOf (λ s. IsOf th s t) (f t)) (d : ℕ) (us : List Ty) (data_type : IsDatatype th d us) where
    owned : Constructor → Owned
    owned k = record { datatype = d; constructor = k }

    typed_constructors : (c : ℕ) (ks : List Constructor) → ((j : ℕ) (k : Constructor) → slice_get ks j ≡ Some k → constructor_at th (c + j) ≡ Some (record { datatype = d; constructor = k }))
        → ((j : ℕ) (k : Constructor) → slice_get ks j ≡ Some k → AreClosed th (tys (map (instance us) k.arguments)))
        → AllOf (λ s. IsOf th s (applied d (tys us))) (of_constructors f c (map (λ (k : Constructor). map (instance us) k.arguments) ks))
    typed_constructors c [] there closed = tt
    typed_constructors c (k ∷ ks) there closed =
        let ts : List Ty = map (instance us) k.arguments in
        let T : Ty = applied d (tys us) in
        let o : Owned = record { datatype = d; constructor = k } in
        let is : constructor_at th c ≡ Some o = ap (constructor_at th) (let e : c ≡ c + 0 = omega arith in e) ∙ there 0 k refl in
        all_both (λ s. IsOf th s T) (map (node c) (products f ts)) (of_constructors f (suc c) (map (λ (k : Constructor). map (instance us) k.arguments) ks))
        (all_made (λ r. AreOf th r ts) (λ s. IsOf th s T) (node c) (λ r q. (o, is, (us, data_type, refl, q))) (products f ts)
        (products_of_types f each ts (closed 0 k refl)))
        (typed_constructors (suc c) ks (λ j y e. ap (constructor_at th) (let q : suc c + j ≡ c + suc j = omega arith in q) ∙ there (suc j) y e) (λ j y e. closed (suc j) y e))

  arguments_of : (d params : ℕ) (ks : List Constructor) → AreConstructors th d params ks → (j : ℕ) (k : Constructor) → slice_get ks j ≡ Some k
      → AreArguments th d params k.arguments
  arguments_of d params [] h j k e = absurd (none-some k e)
  arguments_of d params (y ∷ ks) h zero k e = subst (λ (z : Constructor). AreArguments th d params z.arguments) (same_Some y k e) h.0
  arguments_of d params (y ∷ ks) h (suc j) k e = arguments_of d params ks h.1 j k e

  module _ (accepted : IsAccepted th) where
    typed_data : (k d : ℕ) (ts : Tys) → ((t : Ty) → IsClosed th t → AllOf (λ s. IsOf th s t) (of_type th.datatypes k t)) → IsClosed th (applied d ts)
        → AllOf (λ s. IsOf th s (applied d ts)) (of_type th.datatypes (suc k) (applied d ts))
    typed_data k zero ts each ((x, is, count), closed) = absurd (none-some x is)
    typed_data k (suc d) ts each ((x, is, count), closed) =
        let us : List Ty = elements ts in
        let at : Datatype → List (List Ty) = λ y. map (λ (c : Constructor). map (instance us) c.arguments) y.constructors in
        let c = first_constructor th.datatypes (suc d) in
        let closed_arguments : AreClosed th (tys us) = subst (AreClosed th) (sym (tys_elements ts)) closed in
        let shapes = typed_constructors (of_type th.datatypes k) each (suc d) us (x, is, count) c x.constructors
        (λ j y e. (numbers_are_places th (c + j) (record { datatype = suc d; constructor = y })).1 (j, refl, (x, is, e)))
        (λ j y e. arguments_closed th (suc d) x.parameters us closed_arguments count x is refl y.arguments
        (arguments_of (suc d) x.parameters x.constructors (accepted.constructors d x is) j y e)) in
        subst (λ (o : Option Datatype). AllOf (λ s. IsOf th s (applied (suc d) ts)) (of_constructors (of_type th.datatypes k) c (option_map_or at o []))) (sym is)
        (subst (λ l. AllOf (λ s. IsOf th s (applied (suc d) l)) (of_constructors (of_type th.datatypes k) c (at x))) (tys_elements ts) shapes)

    typed_shapes : (k : ℕ) (t : Ty) → IsClosed th t → AllOf (λ s. IsOf th s t) (of_type th.datatypes k t)
    typed_shapes k nat h = ((refl, tt), tt)
    typed_shapes k bool h = ((refl, tt), tt)
    typed_shapes k (parameter n) h = absurd h
    typed_shapes k (meta n) h = absurd h
    typed_shapes zero (applied d ts) h = tt
    typed_shapes (suc k) (applied d ts) h = typed_data k d ts (typed_shapes k) h

-- ---- terms of shapes

item_there : {A : Type 0} (pre : List A) (x : A) (post : List A) → slice_get (pre ++ (x ∷ post)) (length pre) ≡ Some x
item_there [] x post = refl
item_there (y ∷ pre) x post = item_there pre x post

module _ (th : Theory) (vars : List Ty) where
  typings : (ts : Trees) (us : List Ty) → AllTyped th vars [] ts us → (ds : Typings) × AreTypings th vars [] ts ds × (types_of ds ≡ us)
  typings tree.none [] h = (typing.none, tt, refl)
  typings tree.none (u ∷ us) h = absurd h
  typings (tree.more t ts) [] h = absurd h
  typings (tree.more t ts) (u ∷ us) (first, rest) =
      let others = typings ts us rest in
      (typing.more first.0 others.0, (first.1, others.1), ap₂ (λ (a : Ty) l. a ∷ l) first.2 others.2)

  mutual
    typed_term : (s : Shape) (t : Ty) (pre post : List Ty) (n : ℕ) → IsOf th s t → vars ≡ pre ++ (holes s ++ post) → n ≡ suc (length pre)
        → IsTyped th vars [] (term_from n s) t
    typed_term (hole u) t pre post n h is place =
        (leaf t, ap (numbered vars) place ∙ ap (λ l. slice_get l (length pre)) is ∙ item_there pre u post ∙ ap Some h.0, refl)
    typed_term (node c ss) t pre post n (o, here, (us, data_type, e, are)) is place =
        let args : List Ty = map (instance us) o.constructor.arguments in
        let below = typings (terms_from n ss) args (typed_terms ss args pre post n are is place) in
        (instanced us t below.0, (o, here, data_type, e, below.2, below.1), refl)

    typed_terms : (ss : Shapes) (ts : List Ty) (pre post : List Ty) (n : ℕ) → AreOf th ss ts → vars ≡ pre ++ (all_holes ss ++ post) → n ≡ suc (length pre)
        → AllTyped th vars [] (terms_from n ss) ts
    typed_terms none [] pre post n h is place = tt
    typed_terms none (t ∷ ts) pre post n h is place = absurd h
    typed_terms (more s ss) [] pre post n h is place = absurd h
    typed_terms (more s ss) (t ∷ ts) pre post n h is place =
        let us : List Ty = holes s in
        let rest : List Ty = all_holes ss in
        let sum = length-append pre us in (
          typed_term s t pre (rest ++ post) n h.0 (is ∙ ap (λ l. pre ++ l) (append_assoc us rest post)) place,
          typed_terms ss ts (pre ++ us) post (n + length us) h.1
              (is ∙ ap (λ l. pre ++ l) (append_assoc us rest post) ∙ sym (append_assoc pre us (rest ++ post))) (omega (arith, place, sum)),
        )

module _ (th : Theory) where
  closed_both : (us vs : List Ty) → AreClosed th (tys us) → AreClosed th (tys vs) → AreClosed th (tys (us ++ vs))
  closed_both [] vs h k = k
  closed_both (u ∷ us) vs h k = (h.0, closed_both us vs h.1 k)

  mutual
    closed_holes : (s : Shape) (t : Ty) → IsOf th s t → AreClosed th (tys (holes s))
    closed_holes (hole u) t h = (h.1, tt)
    closed_holes (node c ss) t (o, here, (us, data_type, e, are)) = all_closed_holes ss (map (instance us) o.constructor.arguments) are

    all_closed_holes : (ss : Shapes) (ts : List Ty) → AreOf th ss ts → AreClosed th (tys (all_holes ss))
    all_closed_holes none ts h = tt
    all_closed_holes (more s ss) [] h = absurd h
    all_closed_holes (more s ss) (t ∷ ts) h = closed_both (holes s) (all_holes ss) (closed_holes s t h.0) (all_closed_holes ss ts h.1)

module _ (w : World) (vs : List Value) where
  mutual
    value_there : (s : Shape) (n : ℕ) → value_in w vs [] (term_from n s) ≡ filled_term vs (term_from n s)
    value_there (hole t) n = refl
    value_there (node c ss) n = ap (λ l. made c (values l)) (values_there ss n)

    values_there : (ss : Shapes) (n : ℕ) → values_in w vs [] (terms_from n ss) ≡ fill vs (terms_from n ss)
    values_there none n = refl
    values_there (more s ss) n = ap₂ (λ (v : Value) l. v ∷ l) (value_there s n) (values_there ss (n + length (holes s)))

-- ---- patterns

typed_pattern : (th : Theory) (ts : List Ty) (ss : Shapes) → AreOf th ss ts → IsPatternOf th ts (pattern_of ss)
typed_pattern th ts ss h = record {
  closed = all_closed_holes th ss ts h;
  typed = typed_terms th (all_holes ss) ss ts [] [] 1 h (sym (append-nil (all_holes ss))) refl;
  value = λ tb vs. values_there (world th tb) vs ss 1;
  made = shapes_made ss 1;
}

pub each_pattern_is_typed : EachPatternIsTyped
each_pattern_is_typed th ps accepted closed =
    let of : Input → Ty = λ p. p.1 in
    all_made (λ r. AreOf th r (map of ps)) (IsPatternOf th (map of ps)) pattern_of (typed_pattern th (map of ps)) (products (of_input th) ps)
    (typed_products th (of_input th) of (λ p h. typed_shapes th accepted p.0 p.1 h) ps closed)

types_of_inputs : (k : ℕ) (ts : List Ty) → map (λ (p : Input). p.1) (to_depth k ts) ≡ ts
types_of_inputs k [] = refl
types_of_inputs k (t ∷ ts) = ap (λ l. t ∷ l) (types_of_inputs k ts)

pub patterns_are_typed : PatternsAreTyped
patterns_are_typed th k accepted =
    let ts : List Ty = th.program.inputs in
    let same = types_of_inputs k ts in
    subst (λ us. AllOf (IsPatternOf th us) (patterns th k)) same
    (each_pattern_is_typed th (to_depth k ts) accepted (subst (λ us. AreClosed th (tys us)) (sym same) accepted.well_typed.inputs))

-- A value of a type fits exactly one shape of the type to a depth, where it isn't deeper, and else none.
use Rattle.std.proofs.Common.{ℕ, zero, suc, ◌≡◌, ◌<◌, ◌≤◌, ◌+◌, ◌⊎◌, inl, inr, List, [], ◌∷◌, map, Option, Some, refl, sym, ◌∙◌, ap, subst, arith}
use Rattle.std.specs.Prelude.{slice_get, option_map}
use Rattle.std.specs.Option.{option_map_or}
use Rattle.std.proofs.lemmas.Option.{slice_get-map, none-some}
use Rattle.tg_model.specs.Types.{Ty, nat, bool, parameter, meta, applied}
use Rattle.tg_model.specs.Value as value
use Rattle.tg_model.specs.Value.{Value, Values, number, boolean, made, depth, deepest}
use Rattle.tg_model.specs.Theory.{Theory, Datatype, Constructor, Owned, constructor_at, first_constructor, numbered, instance}
use Rattle.tg_model.specs.Typing.{HasType, HaveTypes}
use Rattle.tg_model.proofs.Constructors.{numbers_are_places}
use Rattle.tg_model.proofs.ValueTyping.{elements-tys}
use Rattle.tg_split.specs.Shapes.{Shape, Shapes, hole, node, none, more, product, products, of_constructors, arguments_at, of_type}
use Rattle.tg_split.specs.Laws.{NoneOf, OneOf}
use Rattle.tg_split.proofs.Listed.{none_all, none_both, one_left, one_right, none_mapped, one_mapped}

-- exactly one where `D` holds, and else none
abbrev pub Covers : {A : Type 0} → Type 0 → (A → Type 0) → List A → Type 0
Covers D P xs = (D → OneOf P xs) × ((¬ D) → NoneOf P xs)

pub either : (m k : ℕ) → (m ≤ k) ⊎ (¬ (m ≤ k))
either zero k = inl (omega arith)
either (suc m) zero = inr (λ h. absurd (omega (arith, h)))
either (suc m) (suc k) = elim (either m k) [
  | inl h ↦ inl (omega (arith, h))
  | inr not_low ↦ inr (λ h. not_low (omega (arith, h)))
]

-- each value has the property with its item
abbrev pub AllHave : {A : Type 0} → (A → Value → Type 0) → List A → Values → Type 0
AllHave P [] value.none = Unit {0}
AllHave P (x ∷ xs) (value.more v vs) = P x v × AllHave P xs vs
AllHave P [] (value.more v vs) = ⊥
AllHave P (x ∷ xs) value.none = ⊥

pub covers_as : {A : Type 0} (D E : Type 0) (P : A → Type 0) (xs : List A) → (D → E) → (E → D) → Covers E P xs → Covers D P xs
covers_as D E P xs to from covers = (λ low. covers.0 (to low), λ high. covers.1 (λ e. high (from e)))

module _ (th : Theory) where
  abbrev mutual
    pub Fits : Shape → Value → Type 0
    Fits (hole t) v = HasType th v t
    Fits (node c ss) (number n) = ⊥
    Fits (node c ss) (boolean b) = ⊥
    Fits (node c ss) (made d vs) = (c ≡ d) × AllFit ss vs

    pub AllFit : Shapes → Values → Type 0
    AllFit none value.none = Unit {0}
    AllFit none (value.more v vs) = ⊥
    AllFit (more s ss) value.none = ⊥
    AllFit (more s ss) (value.more v vs) = Fits s v × AllFit ss vs

  module _ (v : Value) (vs : Values) where
    abbrev First : Shape → Type 0
    First s = Fits s v

    abbrev Rest : Shapes → Type 0
    Rest ss = AllFit ss vs

    abbrev Both : Shapes → Type 0
    Both ss = AllFit ss (value.more v vs)

    none_first : (xs : List Shape) (rests : List Shapes) → NoneOf First xs → NoneOf Both (product xs rests)
    none_first [] rests h = tt
    none_first (s ∷ xs) rests h =
        none_both Both (map (more s) rests) (product xs rests) (none_mapped (more s) Both (λ r. ⊥) (λ r p. h.0 p.0) rests (none_all (λ r. ⊥) (λ r p. p) rests))
        (none_first xs rests h.1)

    none_rest : (xs : List Shape) (rests : List Shapes) → NoneOf Rest rests → NoneOf Both (product xs rests)
    none_rest [] rests h = tt
    none_rest (s ∷ xs) rests h =
        none_both Both (map (more s) rests) (product xs rests) (none_mapped (more s) Both Rest (λ r p. p.1) rests h) (none_rest xs rests h)

    one_both : (xs : List Shape) (rests : List Shapes) → OneOf First xs → OneOf Rest rests → OneOf Both (product xs rests)
    one_both [] rests h k = absurd h
    one_both (s ∷ xs) rests h k = elim h [
      | inl p ↦ one_left Both (map (more s) rests) (product xs rests) (one_mapped (more s) Both Rest (λ r q. q.1) (λ r q. (p.0, q)) rests k)
          (none_first xs rests p.1)
      | inr q ↦ one_right Both (map (more s) rests) (product xs rests)
          (none_mapped (more s) Both (λ r. ⊥) (λ r p. q.0 p.0) rests (none_all (λ r. ⊥) (λ r p. p) rests)) (one_both xs rests q.1 k)
    ]

  -- products of shapes that cover, where each item tells which values are low enough for it
  module _ {A : Type 0} (shapes : A → List Shape) (Typed Low : A → Value → Type 0)
      (decide : (x : A) (v : Value) → Low x v ⊎ (¬ (Low x v)))
      (covers : (x : A) (v : Value) → Typed x v → Covers (Low x v) (λ s. Fits s v) (shapes x)) where
    pub cover_products : (xs : List A) (vs : Values) → AllHave Typed xs vs → Covers (AllHave Low xs vs) (λ ss. AllFit ss vs) (products shapes xs)
    cover_products [] value.none h = (λ low. inl (tt, tt), λ high. absurd (high tt))
    cover_products [] (value.more v vs) h = absurd h
    cover_products (x ∷ xs) value.none h = absurd h
    cover_products (x ∷ xs) (value.more v vs) h =
        let first = covers x v h.0 in
        let rest = cover_products xs vs h.1 in (
          λ low. one_both v vs (shapes x) (products shapes xs) (first.0 low.0) (rest.0 low.1),
          λ high. elim (decide x v) [
            | inl low ↦ none_rest v vs (shapes x) (products shapes xs) (rest.1 (λ lows. high (low, lows)))
            | inr not_low ↦ none_first v vs (shapes x) (products shapes xs) (first.1 not_low)
          ],
        )

  -- the constructors of a datatype
  module _ (shapes : Ty → List Shape) (d : ℕ) (vs : Values) where
    abbrev Made : Shape → Type 0
    Made s = Fits s (made d vs)

    none_other : (c : ℕ) (sss : List Shapes) → ¬ (c ≡ d) → NoneOf Made (map (node c) sss)
    none_other c sss other = none_mapped (node c) Made (λ ss. ⊥) (λ ss p. other p.0) sss (none_all (λ ss. ⊥) (λ ss p. p) sss)

    none_later : (c : ℕ) (args : List (List Ty)) → d < c → NoneOf Made (of_constructors shapes c args)
    none_later c [] h = tt
    none_later c (ts ∷ rest) h =
        none_both Made (map (node c) (products shapes ts)) (of_constructors shapes (suc c) rest) (none_other c (products shapes ts) (λ e. absurd (omega (arith, h, e))))
        (none_later (suc c) rest (omega (arith, h)))

    cover_constructors : (D : Type 0) (c j : ℕ) (args : List (List Ty)) (ts : List Ty) → slice_get args j ≡ Some ts → d ≡ c + j
        → Covers D (λ ss. AllFit ss vs) (products shapes ts) → Covers D Made (of_constructors shapes c args)
    cover_constructors D c j [] ts is sum covers = absurd (none-some ts is)
    cover_constructors D c zero (us ∷ rest) ts is sum covers =
        let here : us ≡ ts = cc in
        let same : c ≡ d = omega (arith, sum) in
        let later = none_later (suc c) rest (omega (arith, same)) in
        let all = subst (λ (l : List Ty). Covers D (λ ss. AllFit ss vs) (products shapes l)) (sym here) covers in (
          λ low. one_left Made (map (node c) (products shapes us)) (of_constructors shapes (suc c) rest)
              (one_mapped (node c) Made (λ ss. AllFit ss vs) (λ ss p. p.1) (λ ss p. (same, p)) (products shapes us) (all.0 low)) later,
          λ high. none_both Made (map (node c) (products shapes us)) (of_constructors shapes (suc c) rest)
              (none_mapped (node c) Made (λ ss. AllFit ss vs) (λ ss p. p.1) (products shapes us) (all.1 high)) later,
        )
    cover_constructors D c (suc j) (us ∷ rest) ts is sum covers =
        let other = none_other c (products shapes us) (λ e. absurd (omega (arith, sum, e))) in
        let later = cover_constructors D (suc c) j rest ts is (omega (arith, sum)) covers in (
          λ low. one_right Made (map (node c) (products shapes us)) (of_constructors shapes (suc c) rest) other (later.0 low),
          λ high. none_both Made (map (node c) (products shapes us)) (of_constructors shapes (suc c) rest) other (later.1 high),
        )

  abbrev Typed : Ty → Value → Type 0
  Typed t v = HasType th v t

  abbrev Low : ℕ → Ty → Value → Type 0
  Low k t v = depth v ≤ k

  typed_all : (ts : List Ty) (vs : Values) → HaveTypes th vs ts → AllHave Typed ts vs
  typed_all [] value.none h = tt
  typed_all [] (value.more v vs) h = absurd h
  typed_all (t ∷ ts) value.none h = absurd h
  typed_all (t ∷ ts) (value.more v vs) h = (h.0, typed_all ts vs h.1)

  all_low : (k : ℕ) (ts : List Ty) (vs : Values) → HaveTypes th vs ts → deepest vs ≤ k → AllHave (Low k) ts vs
  all_low k [] value.none h low = tt
  all_low k [] (value.more v vs) h low = absurd h
  all_low k (t ∷ ts) value.none h low = absurd h
  all_low k (t ∷ ts) (value.more v vs) h low = (omega (arith, low), all_low k ts vs h.1 (omega (arith, low)))

  deepest_low : (k : ℕ) (ts : List Ty) (vs : Values) → AllHave (Low k) ts vs → deepest vs ≤ k
  deepest_low k [] value.none h = omega arith
  deepest_low k [] (value.more v vs) h = absurd h
  deepest_low k (t ∷ ts) value.none h = absurd h
  deepest_low k (t ∷ ts) (value.more v vs) h =
      let first : depth v ≤ k = h.0 in
      let rest = deepest_low k ts vs h.1 in omega (arith, first, rest)

  abbrev FitsIt : Value → Shape → Type 0
  FitsIt v s = Fits s v

  arguments_there : (us : List Ty) (o : Owned) (x : Datatype) (j : ℕ) → numbered th.datatypes o.datatype ≡ Some x
      → slice_get x.constructors j ≡ Some o.constructor → slice_get (arguments_at th.datatypes o.datatype us) j ≡ Some (map (instance us) o.constructor.arguments)
  arguments_there us o x j is placed =
      let at : Constructor → List Ty = λ (c : Constructor). map (instance us) c.arguments in
      ap (λ (q : Option Datatype). slice_get (option_map_or (λ (y : Datatype). map at y.constructors) q []) j) is
      ∙ (slice_get-map at x.constructors j ∙ ap (option_map at) placed)

  module _ (k : ℕ) (below : (t : Ty) (v : Value) → HasType th v t → Covers (depth v ≤ k) (FitsIt v) (of_type th.datatypes k t)) where
    cover_made : (c : ℕ) (vs : Values) (o : Owned) (us : List Ty) → constructor_at th c ≡ Some o
        → HaveTypes th vs (map (instance us) o.constructor.arguments)
        → Covers (depth (made c vs) ≤ suc k) (FitsIt (made c vs)) (of_constructors (of_type th.datatypes k) (first_constructor th.datatypes o.datatype) (arguments_at th.datatypes o.datatype us))
    cover_made c vs o us is typed =
        let place = (numbers_are_places th c o).0 is in
        let ts : List Ty = map (instance us) o.constructor.arguments in
        let lows = cover_products (of_type th.datatypes k) Typed (Low k) (λ t v. either (depth v) k) below ts vs (typed_all ts vs typed) in
        let deep = covers_as (depth (made c vs) ≤ suc k) (AllHave (Low k) ts vs) (λ ss. AllFit ss vs) (products (of_type th.datatypes k) ts)
        (λ low. all_low k ts vs typed (omega (arith, low))) (λ all. let low = deepest_low k ts vs all in omega (arith, low)) lows in
        cover_constructors (of_type th.datatypes k) c vs (depth (made c vs) ≤ suc k) (first_constructor th.datatypes o.datatype) place.0 (arguments_at th.datatypes o.datatype us) ts
        (arguments_there us o place.2.0 place.0 place.2.1 place.2.2) place.1 deep

  pub cover : (k : ℕ) (t : Ty) (v : Value) → HasType th v t → Covers (depth v ≤ k) (FitsIt v) (of_type th.datatypes k t)
  cover k nat (number n) h = (λ low. inl (refl, tt), λ high. absurd (high (omega arith)))
  cover k nat (boolean b) h = cc h
  cover k nat (made c vs) (o, is, (us, e, typed)) = cc e
  cover k bool (number n) h = cc h
  cover k bool (boolean b) h = (λ low. inl (refl, tt), λ high. absurd (high (omega arith)))
  cover k bool (made c vs) (o, is, (us, e, typed)) = cc e
  cover k (parameter m) (number n) h = cc h
  cover k (parameter m) (boolean b) h = cc h
  cover k (parameter m) (made c vs) (o, is, (us, e, typed)) = cc e
  cover k (meta m) (number n) h = cc h
  cover k (meta m) (boolean b) h = cc h
  cover k (meta m) (made c vs) (o, is, (us, e, typed)) = cc e
  cover zero (applied d ts) (number n) h = cc h
  cover zero (applied d ts) (boolean b) h = cc h
  cover zero (applied d ts) (made c vs) h = (λ low. absurd (omega (arith, low)), λ high. tt)
  cover (suc k) (applied d ts) (number n) h = cc h
  cover (suc k) (applied d ts) (boolean b) h = cc h
  cover (suc k) (applied d ts) (made c vs) (o, is, (us, e, typed)) =
      let made_so = subst (λ (l : List Ty). Covers (depth (made c vs) ≤ suc k) (FitsIt (made c vs))
      (of_constructors (of_type th.datatypes k) (first_constructor th.datatypes o.datatype) (arguments_at th.datatypes o.datatype l))) (sym (elements-tys us))
      (cover_made k (cover k) c vs o us is typed) in
      subst (λ (t : Ty). Covers (depth (made c vs) ≤ suc k) (FitsIt (made c vs)) (of_type th.datatypes (suc k) t)) (sym e) made_so

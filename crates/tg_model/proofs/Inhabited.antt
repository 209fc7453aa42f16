-- In a well-typed theory the least value of a closed type has the type.
use Rattle.std.proofs.Common.{ℕ, zero, suc, ◌≡◌, ◌<◌, ◌≤◌, ◌+◌, ◌-◌, Bool, true, false, List, [], ◌∷◌, ◌++◌, map, length, Option, Some, refl, sym, ◌∙◌, ap, subst, inl, inr, nat_eq, if◌then◌else◌, arith}
use Rattle.std.specs.Prelude.{slice_get, unwrap_or, option_map}
use Rattle.std.specs.Option.{option_map_or}
use Rattle.std.specs.List.{list_any}
use Rattle.std.proofs.lemmas.Bool.Decides.{eqb_tells}
use Rattle.std.proofs.lemmas.List.{length-map}
use Rattle.std.proofs.lemmas.Option.{slice_get-map, slice_get_within}
use Rattle.tg_model.specs.Types as types
use Rattle.tg_model.specs.Types.{Ty, nat, bool, parameter, meta, applied, Tys, tys}
use Rattle.tg_model.specs.Value.{Value, made, values, wrong}
use Rattle.tg_model.specs.Theory.{Theory, Datatype, Constructor, Owned, numbered, constructors_from, constructor_at, constructors_before, first_constructor, instance, instances, datatype_of, IsClosed, AreClosed}
use Rattle.tg_model.specs.Typing.{HasType, AreTyped, base_constructor, least_at, all_least, least_below, least}
use Rattle.tg_model.specs.WellTyped.{IsBefore, AreBefore, IsWellTyped}
use Rattle.tg_model.proofs.Booleans.{if_true, if_false}
use Rattle.tg_model.proofs.Places.{get_left, get_past}

abbrev owned : ℕ → Constructor → Owned
owned e c = record { datatype = e; constructor = c }

numbered_from : (e : ℕ) (ds : List Datatype) (place : ℕ) (x : Datatype) (j : ℕ) (k : Constructor) → slice_get ds place ≡ Some x → slice_get x.constructors j ≡ Some k
    → slice_get (constructors_from e ds) (constructors_before place ds + j) ≡ Some (owned (e + place) k)
numbered_from e [] place x j k is h = cc
numbered_from e (y ∷ ds) zero x j k is h =
    let same : y ≡ x = cc is in
    let own : slice_get y.constructors j ≡ Some k = ap (λ (z : Datatype). slice_get z.constructors j) same ∙ h in
    let within : j < length (map (owned e) y.constructors) = omega (arith, length-map y.constructors (owned e), slice_get_within y.constructors j k own) in
    let index : 0 + j ≡ j = omega arith in
    let sum : e ≡ e + 0 = omega arith in
    ap (slice_get (map (owned e) y.constructors ++ constructors_from (suc e) ds)) index
    ∙ (get_left (map (owned e) y.constructors) (constructors_from (suc e) ds) j within
    ∙ (slice_get-map (owned e) y.constructors j ∙ (ap (option_map (owned e)) own ∙ ap (λ n. Some (owned n k)) sum)))
numbered_from e (y ∷ ds) (suc place) x j k is h =
    let count = length-map y.constructors (owned e) in
    let before = constructors_before place ds in
    let past : length (map (owned e) y.constructors) ≤ length y.constructors + before + j = omega (arith, count) in
    let index : length y.constructors + before + j - length (map (owned e) y.constructors) ≡ before + j = omega (arith, count) in
    let sum : suc e + place ≡ e + suc place = omega arith in
    get_past (map (owned e) y.constructors) (constructors_from (suc e) ds) (length y.constructors + before + j) past
    ∙ (ap (slice_get (constructors_from (suc e) ds)) index ∙ (numbered_from (suc e) ds place x j k is h ∙ ap (λ n. Some (owned n k)) sum))

pub constructor_number : (th : Theory) (place : ℕ) (x : Datatype) (j : ℕ) (k : Constructor) → slice_get th.datatypes place ≡ Some x → slice_get x.constructors j ≡ Some k
    → constructor_at th (first_constructor th.datatypes (suc place) + j) ≡ Some (owned (suc place) k)
constructor_number th place x j k is h =
    let index : 1 + constructors_before place th.datatypes + j ≡ suc (constructors_before place th.datatypes + j) = omega arith in
    let sum : 1 + place ≡ suc place = omega arith in
    ap (constructor_at th) index ∙ (numbered_from 1 th.datatypes place x j k is h ∙ ap (λ n. Some (owned n k)) sum)

base_place : (d c : ℕ) (ks : List Constructor) (m : ℕ) (k : Constructor) → base_constructor d c ks ≡ Some (m, k) → (j : ℕ) × (m ≡ c + j) × (slice_get ks j ≡ Some k)
base_place d c [] m k e = cc
base_place d c (x ∷ ks) m k e = by_test (list_any (λ t. nat_eq (datatype_of t) d) x.arguments) e (λ h. base_place d (suc c) ks m k h)
  where
    by_test : (b : Bool) → (if b then base_constructor d (suc c) ks else Some (c, x)) ≡ Some (m, k)
        → (base_constructor d (suc c) ks ≡ Some (m, k) → (j : ℕ) × (m ≡ suc c + j) × (slice_get ks j ≡ Some k)) → (j : ℕ) × (m ≡ c + j) × (slice_get (x ∷ ks) j ≡ Some k)
    by_test true h next = let p = next h in (suc p.0, omega (arith, p.1), p.2)
    by_test false h next =
        let q : (c, x) ≡ (m, k) = cc h in
        let first = ap (λ (r : ℕ × Constructor). r.0) q in
        (0, omega (arith, first), ap (λ (r : ℕ × Constructor). Some r.1) q)

instances_listed : (us : List Ty) (ts : Tys) → instances us ts ≡ tys (map (instance us) (types.elements ts))
instances_listed us types.none = refl
instances_listed us (types.more t ts) = ap (types.more (instance us t)) (instances_listed us ts)

typed_parameter : (th : Theory) (vs : List Value) (us : List Ty) (i : ℕ) → AreTyped th vs us → i < length us
    → HasType th (option_map_or (λ (v : Value). v) (slice_get vs i) wrong) (unwrap_or (slice_get us i) nat)
typed_parameter th vs [] i h low = absurd (omega arith)
typed_parameter th [] (u ∷ us) i h low = absurd h
typed_parameter th (v ∷ vs) (u ∷ us) zero h low = h.0
typed_parameter th (v ∷ vs) (u ∷ us) (suc i) h low = typed_parameter th vs us i h.1 (omega arith)

-- the least values of earlier types, where those of earlier datatypes are given
module _ (th : Theory) (d : ℕ) (below : ℕ → List Value → Value)
    (typed_below : (e : ℕ) (x : Datatype) (ts : List Ty) (ws : List Value) → e < d → numbered th.datatypes e ≡ Some x → length ts ≡ x.parameters → AreTyped th ws ts
    → HasType th (below e ws) (applied e (tys ts)))
    (us : List Ty) (vs : List Value) (typed : AreTyped th vs us) where
  mutual
    least_typed : (t : Ty) → IsBefore th d (length us) t → HasType th (least_at below vs t) (instance us t)
    least_typed nat h = refl
    least_typed bool h = refl
    least_typed (parameter zero) h = absurd (omega (arith, h.0))
    least_typed (parameter (suc i)) h = typed_parameter th vs us i typed (omega (arith, h.1))
    least_typed (meta n) h = absurd h
    least_typed (applied e ts) h =
        subst (λ (x : Tys). HasType th (below e (all_least below vs ts)) (applied e x)) (sym (instances_listed us ts))
        (typed_below e h.0.1.0 (map (instance us) (types.elements ts)) (all_least below vs ts) h.0.0 h.0.1.1
        (length-map (types.elements ts) (instance us) ∙ h.0.1.2) (all_least_typed ts h.1))

    all_least_typed : (ts : Tys) → AreBefore th d (length us) ts → AreTyped th (all_least below vs ts) (map (instance us) (types.elements ts))
    all_least_typed types.none h = tt
    all_least_typed (types.more t ts) h = (least_typed t h.0, all_least_typed ts h.1)

  list_least_typed : (ts : List Ty) → AreBefore th d (length us) (tys ts) → AreTyped th (map (least_at below vs) ts) (map (instance us) ts)
  list_least_typed [] h = tt
  list_least_typed (t ∷ ts) h = (least_typed t h.0, list_least_typed ts h.1)

declared_number : (th : Theory) (e : ℕ) (x : Datatype) → numbered th.datatypes e ≡ Some x → e ≤ length th.datatypes
declared_number th zero x h = omega arith
declared_number th (suc e) x h = slice_get_within th.datatypes e x h

mutual
  closed_before : (th : Theory) (d : ℕ) (t : Ty) → length th.datatypes < d → IsClosed th t → IsBefore th d 0 t
  closed_before th d nat far h = tt
  closed_before th d bool far h = tt
  closed_before th d (parameter n) far h = absurd h
  closed_before th d (meta n) far h = absurd h
  closed_before th d (applied e ts) far h =
      let low : e < d = omega (arith, declared_number th e h.0.0 h.0.1) in ((low, h.0), all_closed_before th d ts far h.1)

  all_closed_before : (th : Theory) (d : ℕ) (ts : Tys) → length th.datatypes < d → AreClosed th ts → AreBefore th d 0 ts
  all_closed_before th d types.none far h = tt
  all_closed_before th d (types.more t ts) far h = (closed_before th d t far h.0, all_closed_before th d ts far h.1)

-- a closed type is its own instance
mutual
  pub closed_instance : (th : Theory) (us : List Ty) (t : Ty) → IsClosed th t → instance us t ≡ t
  closed_instance th us nat h = refl
  closed_instance th us bool h = refl
  closed_instance th us (parameter n) h = absurd h
  closed_instance th us (meta n) h = absurd h
  closed_instance th us (applied d ts) h = ap (applied d) (all_closed_instance th us ts h.1)

  all_closed_instance : (th : Theory) (us : List Ty) (ts : Tys) → AreClosed th ts → instances us ts ≡ ts
  all_closed_instance th us types.none h = refl
  all_closed_instance th us (types.more t ts) h = λ i. types.more (closed_instance th us t h.0 i) (all_closed_instance th us ts h.1 i)

pub list_closed_instance : (th : Theory) (us ts : List Ty) → AreClosed th (tys ts) → map (instance us) ts ≡ ts
list_closed_instance th us [] h = refl
list_closed_instance th us (t ∷ ts) h = λ i. closed_instance th us t h.0 i ∷ list_closed_instance th us ts h.1 i

module _ (th : Theory) (wt : IsWellTyped th) where
  abbrev below : ℕ → ℕ → List Value → Value
  below = least_below th.datatypes

  -- the value that the definition makes of the first constructor without an argument of the datatype itself
  abbrev made_from : ℕ → ℕ → List Value → Option Datatype → Value
  made_from n d ws o = option_map_or
      (λ (x : Datatype). option_map_or
      (λ (p : ℕ × Constructor). made p.0 (values (map (least_at (below n) ws) p.1.arguments)))
      (base_constructor d (first_constructor th.datatypes d) x.constructors) wrong)
      o wrong

  abbrev LeastTyped : ℕ → Type 0
  LeastTyped n = (d : ℕ) (x : Datatype) (ts : List Ty) (ws : List Value) → d ≤ n → numbered th.datatypes d ≡ Some x → length ts ≡ x.parameters → AreTyped th ws ts
      → HasType th (below n d ws) (applied d (tys ts))

  made_typed : (n place : ℕ) (x : Datatype) (ts : List Ty) (ws : List Value) → suc place ≡ suc n → LeastTyped n → slice_get th.datatypes place ≡ Some x
      → length ts ≡ x.parameters → AreTyped th ws ts → HasType th (made_from n (suc place) ws (Some x)) (applied (suc place) (tys ts))
  made_typed n place x ts ws e lower is count typed =
      let inhabited = wt.datatypes place x is in
      let k = inhabited.constructor in
      let base = base_place (suc place) (first_constructor th.datatypes (suc place)) x.constructors inhabited.number k inhabited.base in
      let at : constructor_at th inhabited.number ≡ Some (owned (suc place) k) =
      ap (constructor_at th) base.1 ∙ constructor_number th place x base.0 k is base.2 in
      let before : AreBefore th (suc place) (length ts) (tys k.arguments) =
      subst (λ (m : ℕ). AreBefore th (suc place) m (tys k.arguments)) (sym count) inhabited.before in
      let arguments = list_least_typed th (suc place) (below n)
      (λ f y us vs low. lower f y us vs (omega (arith, e))) ts ws typed k.arguments before in
      subst (λ (o : Option (ℕ × Constructor)). HasType th (option_map_or (λ (p : ℕ × Constructor). made p.0 (values (map (least_at (below n) ws) p.1.arguments))) o wrong) (applied (suc place) (tys ts)))
      (sym inhabited.base) (owned (suc place) k, at, (ts, refl, arguments))

  least_below_typed : (n : ℕ) → LeastTyped n
  least_below_typed zero zero x ts ws low is count typed = cc is
  least_below_typed zero (suc d) x ts ws low is count typed = absurd (omega arith)
  least_below_typed (suc n) zero x ts ws low is count typed = cc is
  least_below_typed (suc n) (suc place) x ts ws low is count typed =
      elim (eqb_tells (suc place) (suc n)) [
        | inl p ↦ subst (λ (v : Value). HasType th v (applied (suc place) (tys ts)))
            (sym (if_true (made_from n (suc place) ws (slice_get th.datatypes place)) (below n (suc place) ws) (nat_eq (suc place) (suc n)) p.0 ∙ ap (made_from n (suc place) ws) is))
            (made_typed n place x ts ws p.1 (least_below_typed n) is count typed)
        | inr p ↦ subst (λ (v : Value). HasType th v (applied (suc place) (tys ts)))
            (sym (if_false (made_from n (suc place) ws (slice_get th.datatypes place)) (below n (suc place) ws) (nat_eq (suc place) (suc n)) p.0))
            (least_below_typed n (suc place) x ts ws (omega (arith, p.1)) is count typed)
      ]

  pub least_has_type : (t : Ty) → IsClosed th t → HasType th (least th t) t
  least_has_type t closed =
      let all = length th.datatypes in
      let before = closed_before th (suc all) t (omega arith) closed in
      let typed = least_typed th (suc all) (below all) (λ e x ts ws low is count k. least_below_typed all e x ts ws (omega arith) is count k) [] [] tt t before in
      subst (λ (u : Ty). HasType th (least th t) u) (closed_instance th [] t closed) typed

-- Typed values: by place, in two lists one after another, taken apart, and operated on.
use Rattle.std.proofs.Common.{ℕ, zero, suc, ◌≡◌, ◌≤◌, ◌+◌, ◌-◌, ◌*◌, Bool, true, false, not, ◌&&◌, ◌||◌, List, [], ◌∷◌, ◌++◌, map, reverse, length, Option, Some, None, refl, sym, ◌∙◌, ap, subst, nat_le, nat_lt, if◌then◌else◌, arith}
use Rattle.std.specs.Prelude.{slice_get, unwrap_or, option_map}
use Rattle.std.specs.Option.{option_map_or}
use mathlib.Core.List.{reverse_aux}
use Rattle.std.proofs.lemmas.Bool.{le-leb}
use Rattle.std.proofs.lemmas.Option.{slice_get-map}
use Rattle.tg_model.specs.Types as types
use Rattle.tg_model.specs.Types.{Ty, nat, bool, parameter, meta, applied, Tys, tys}
use Rattle.tg_model.specs.Value as value
use Rattle.tg_model.specs.Value.{Value, Values, number, boolean, made, values, elements, wrong, same_value}
use Rattle.tg_model.specs.Tree.{Operator, successor, negation, conjunction, disjunction, implication, equality, less, less_equal, plus, minus, times, divide, modulo, unnamed}
use Rattle.tg_model.specs.Theory.{Theory, Datatype, Constructor, Owned, first_constructor, instance}
use Rattle.tg_model.specs.Typing.{HasType, HaveTypes, AreTyped}
use Rattle.tg_model.specs.Denotation.{opened, operated, chosen, on_number, on_numbers, on_truth, on_truths, quotient, remainder}
use Rattle.tg_model.specs.TermTyping.{IsOperation, IsDatatype, datatype_at, constructor_arguments}
use Rattle.tg_model.proofs.Numbering.{numbered_constructor}

pub values-elements : (vs : Values) → values (elements vs) ≡ vs
values-elements value.none = refl
values-elements (value.more v vs) = ap (value.more v) (values-elements vs)

pub elements-tys : (us : List Ty) → types.elements (tys us) ≡ us
elements-tys [] = refl
elements-tys (u ∷ us) = ap (λ rest. u ∷ rest) (elements-tys us)

-- the number and the arguments of a datatype's type
abbrev pub number_of : Ty → ℕ
number_of nat = 0
number_of bool = 0
number_of (parameter n) = 0
number_of (meta n) = 0
number_of (applied d ts) = d

abbrev pub arguments_of : Ty → List Ty
arguments_of nat = []
arguments_of bool = []
arguments_of (parameter n) = []
arguments_of (meta n) = []
arguments_of (applied d ts) = types.elements ts

pub same_arguments : (d e : ℕ) (us vs : List Ty) → applied d (tys us) ≡ applied e (tys vs) → us ≡ vs
same_arguments d e us vs h = sym (elements-tys us) ∙ (ap arguments_of h ∙ elements-tys vs)

module _ (th : Theory) where
  pub typed_at : (f : Ty → Ty) (ts : List Ty) (vs : List Value) (k : ℕ) (t : Ty) → AreTyped th vs (map f ts) → slice_get ts k ≡ Some t
      → HasType th (unwrap_or (slice_get vs k) wrong) (f t)
  typed_at f [] vs k t h e = cc
  typed_at f (u ∷ us) [] k t h e = absurd h
  typed_at f (u ∷ us) (v ∷ vs) zero t h e = let p : u ≡ t = cc e in subst (λ (x : Ty). HasType th v (f x)) p h.0
  typed_at f (u ∷ us) (v ∷ vs) (suc k) t h e = typed_at f us vs k t h.1 e

  pub typed_append : (vs ws : List Value) (ts us : List Ty) → AreTyped th vs ts → AreTyped th ws us → AreTyped th (vs ++ ws) (ts ++ us)
  typed_append [] ws [] us h k = k
  typed_append [] ws (t ∷ ts) us h k = absurd h
  typed_append (v ∷ vs) ws [] us h k = absurd h
  typed_append (v ∷ vs) ws (t ∷ ts) us h k = (h.0, typed_append vs ws ts us h.1 k)

  typed_onto : (vs ws : List Value) (ts us : List Ty) → AreTyped th vs ts → AreTyped th ws us → AreTyped th (reverse_aux vs ws) (reverse_aux ts us)
  typed_onto [] ws [] us h k = k
  typed_onto [] ws (t ∷ ts) us h k = absurd h
  typed_onto (v ∷ vs) ws [] us h k = absurd h
  typed_onto (v ∷ vs) ws (t ∷ ts) us h k = typed_onto vs (v ∷ ws) ts (t ∷ us) h.1 (h.0, k)

  pub typed_reverse : (vs : List Value) (ts : List Ty) → AreTyped th vs ts → AreTyped th (reverse vs) (reverse ts)
  typed_reverse vs ts h = typed_onto vs [] ts [] h tt

  pub typed_length : (vs : List Value) (ts : List Ty) → AreTyped th vs ts → length vs ≡ length ts
  typed_length [] [] h = refl
  typed_length [] (t ∷ ts) h = absurd h
  typed_length (v ∷ vs) [] h = absurd h
  typed_length (v ∷ vs) (t ∷ ts) h = ap suc (typed_length vs ts h.1)

  pub is_number : (v : Value) → HasType th v nat → (n : ℕ) × (v ≡ number n)
  is_number (number n) h = (n, refl)
  is_number (boolean b) h = cc h
  is_number (made c vs) h = let e : nat ≡ applied h.0.datatype (tys h.2.0) = h.2.1 in cc

  pub is_boolean : (v : Value) → HasType th v bool → (b : Bool) × (v ≡ boolean b)
  is_boolean (number n) h = cc h
  is_boolean (boolean b) h = (b, refl)
  is_boolean (made c vs) h = let e : bool ≡ applied h.0.datatype (tys h.2.0) = h.2.1 in cc

  -- what an operator gives has the operator's type
  one_number : (g : ℕ → Value) (t : Ty) → ((m : ℕ) → HasType th (g m) t) → (vs : List Value) → AreTyped th vs (nat ∷ []) → HasType th (on_number g vs) t
  one_number g t k [] h = absurd h
  one_number g t k (v ∷ w ∷ vs) h = absurd h.1
  one_number g t k (v ∷ []) h =
      let p = is_number v h.0 in subst (λ (x : Value). HasType th (on_number g (x ∷ [])) t) (sym p.1) (k p.0)

  two_numbers : (g : ℕ → ℕ → Value) (t : Ty) → ((m n : ℕ) → HasType th (g m n) t) → (vs : List Value) → AreTyped th vs (nat ∷ nat ∷ [])
      → HasType th (on_numbers g vs) t
  two_numbers g t k [] h = absurd h
  two_numbers g t k (v ∷ []) h = absurd h.1
  two_numbers g t k (v ∷ w ∷ x ∷ vs) h = absurd h.1.1
  two_numbers g t k (v ∷ w ∷ []) h =
      let p = is_number v h.0 in
      let q = is_number w h.1.0 in
      subst (λ (x : Value). HasType th (on_numbers g (x ∷ w ∷ [])) t) (sym p.1)
      (subst (λ (y : Value). HasType th (on_numbers g (number p.0 ∷ y ∷ [])) t) (sym q.1) (k p.0 q.0))

  one_truth : (g : Bool → Bool) (vs : List Value) → AreTyped th vs (bool ∷ []) → HasType th (on_truth g vs) bool
  one_truth g [] h = absurd h
  one_truth g (v ∷ w ∷ vs) h = absurd h.1
  one_truth g (v ∷ []) h = let p = is_boolean v h.0 in subst (λ (x : Value). HasType th (on_truth g (x ∷ [])) bool) (sym p.1) refl

  two_truths : (g : Bool → Bool → Bool) (vs : List Value) → AreTyped th vs (bool ∷ bool ∷ []) → HasType th (on_truths g vs) bool
  two_truths g [] h = absurd h
  two_truths g (v ∷ []) h = absurd h.1
  two_truths g (v ∷ w ∷ x ∷ vs) h = absurd h.1.1
  two_truths g (v ∷ w ∷ []) h =
      let p = is_boolean v h.0 in
      let q = is_boolean w h.1.0 in
      subst (λ (x : Value). HasType th (on_truths g (x ∷ w ∷ [])) bool) (sym p.1)
      (subst (λ (y : Value). HasType th (on_truths g (boolean p.0 ∷ y ∷ [])) bool) (sym q.1) refl)

  equated : (vs : List Value) (u : Ty) → AreTyped th vs (u ∷ u ∷ []) → HasType th (operated equality vs) bool
  equated [] u h = absurd h
  equated (v ∷ []) u h = absurd h.1
  equated (v ∷ w ∷ x ∷ vs) u h = absurd h.1.1
  equated (v ∷ w ∷ []) u h = refl

  pub chosen_typed : (t : Ty) (vs : List Value) → AreTyped th vs (bool ∷ t ∷ t ∷ []) → HasType th (chosen vs) t
  chosen_typed t [] h = absurd h
  chosen_typed t (c ∷ []) h = absurd h.1
  chosen_typed t (c ∷ v ∷ []) h = absurd h.1.1
  chosen_typed t (c ∷ v ∷ w ∷ x ∷ vs) h = absurd h.1.1.1
  chosen_typed t (c ∷ v ∷ w ∷ []) h =
      let p = is_boolean c h.0 in
      subst (λ (x : Value). HasType th (chosen (x ∷ v ∷ w ∷ [])) t) (sym p.1) (by_truth p.0)
    where
      by_truth : (b : Bool) → HasType th (if b then v else w) t
      by_truth true = h.1.0
      by_truth false = h.1.1.0

  module _ (us : List Ty) where
    -- operands of stated types, where the operator's instance types are these
    at_types : (ts ts' : List Ty) (vs : List Value) → ts ≡ ts' → AreTyped th vs (map (instance us) ts) → AreTyped th vs (map (instance us) ts')
    at_types ts ts' vs e h = subst (λ (x : List Ty). AreTyped th vs (map (instance us) x)) e h

    at_type : (v : Value) (t t' : Ty) → t ≡ t' → HasType th v (instance us t') → HasType th v (instance us t)
    at_type v t t' e h = subst (λ (x : Ty). HasType th v (instance us x)) (sym e) h

    pub operated_typed : (o : Operator) (ts : List Ty) (t : Ty) (vs : List Value) → IsOperation o ts t → AreTyped th vs (map (instance us) ts)
        → HasType th (operated o vs) (instance us t)
    operated_typed successor ts t vs (e, r) h = at_type _ t nat r (one_number (λ m. number (m + 1)) nat (λ m. refl) vs (at_types ts _ vs e h))
    operated_typed negation ts t vs (e, r) h = at_type _ t bool r (one_truth not vs (at_types ts _ vs e h))
    operated_typed conjunction ts t vs (e, r) h = at_type _ t bool r (two_truths (λ a b. a && b) vs (at_types ts _ vs e h))
    operated_typed disjunction ts t vs (e, r) h = at_type _ t bool r (two_truths (λ a b. a || b) vs (at_types ts _ vs e h))
    operated_typed implication ts t vs (e, r) h = at_type _ t bool r (two_truths (λ a b. not a || b) vs (at_types ts _ vs e h))
    operated_typed equality ts t vs (e, r) h = at_type _ t bool r (equated vs (instance us e.0) (at_types ts _ vs e.1 h))
    operated_typed less ts t vs (e, r) h = at_type _ t bool r (two_numbers (λ m n. boolean (nat_lt m n)) bool (λ m n. refl) vs (at_types ts _ vs e h))
    operated_typed less_equal ts t vs (e, r) h = at_type _ t bool r (two_numbers (λ m n. boolean (nat_le m n)) bool (λ m n. refl) vs (at_types ts _ vs e h))
    operated_typed plus ts t vs (e, r) h = at_type _ t nat r (two_numbers (λ m n. number (m + n)) nat (λ m n. refl) vs (at_types ts _ vs e h))
    operated_typed minus ts t vs (e, r) h = at_type _ t nat r (two_numbers (λ m n. number (m - n)) nat (λ m n. refl) vs (at_types ts _ vs e h))
    operated_typed times ts t vs (e, r) h = at_type _ t nat r (two_numbers (λ m n. number (m * n)) nat (λ m n. refl) vs (at_types ts _ vs e h))
    operated_typed divide ts t vs (e, r) h = at_type _ t nat r (two_numbers (λ m n. number (quotient m n)) nat (λ m n. refl) vs (at_types ts _ vs e h))
    operated_typed modulo ts t vs (e, r) h = at_type _ t nat r (two_numbers (λ m n. number (remainder m n)) nat (λ m n. refl) vs (at_types ts _ vs e h))
    operated_typed (unnamed n) ts t vs h k = absurd h

  -- a value of a datatype, or of nat, is made by one of its constructors at arguments of the constructor's types
  pub record Opens (n : ℕ) (us : List Ty) (v : Value) : Type 0 where
    pub place : ℕ
    pub parts : List Value
    pub arguments : List Ty
    pub is : opened n (first_constructor th.datatypes n) v ≡ Some (place, parts)
    pub found : slice_get (constructor_arguments th n us) place ≡ Some arguments
    pub typed : AreTyped th parts arguments

  opens_nat : (v : Value) → HasType th v nat → Opens 0 [] v
  opens_nat (number zero) h = record { place = 0; parts = []; arguments = []; is = refl; found = refl; typed = tt }
  opens_nat (number (suc n)) h = record { place = 1; parts = number n ∷ []; arguments = nat ∷ []; is = refl; found = refl; typed = (refl, tt) }
  opens_nat (boolean b) h = cc h
  opens_nat (made c vs) h = let e : nat ≡ applied h.0.datatype (tys h.2.0) = h.2.1 in cc

  if_then : (b : Bool) (p : ℕ × List Value) → b ≡ true → (if b then Some p else None) ≡ Some p
  if_then true p e = refl
  if_then false p e = cc

  -- at the place that the constructor's number tells
  opens_at : (d : ℕ) (us : List Ty) (x : Datatype) (c : ℕ) (vs : Values) (o : Owned)
      → slice_get th.datatypes d ≡ Some x → first_constructor th.datatypes (suc d) ≤ c
      → slice_get x.constructors (c - first_constructor th.datatypes (suc d)) ≡ Some o.constructor
      → HaveTypes th vs (map (instance us) o.constructor.arguments) → Opens (suc d) us (made c vs)
  opens_at d us x c vs o is after placed typed =
      let first = first_constructor th.datatypes (suc d) in
      let arguments = map (instance us) o.constructor.arguments in
      record {
        place = c - first;
        parts = elements vs;
        arguments = arguments;
        is = if_then (nat_le first c) (c - first, elements vs) (le-leb first c after);
        found = ap (λ (p : Option Datatype). slice_get (option_map_or (λ (y : Datatype). map (λ (k : Constructor). map (instance us) k.arguments) y.constructors) p []) (c - first)) is
            ∙ (slice_get-map (λ (k : Constructor). map (instance us) k.arguments) x.constructors (c - first)
            ∙ ap (option_map (λ (k : Constructor). map (instance us) k.arguments)) placed);
        typed = subst (λ (ws : Values). HaveTypes th ws arguments) (sym (values-elements vs)) typed;
      }

  pub opens : (n : ℕ) (us : List Ty) (v : Value) → IsDatatype th n us → HasType th v (datatype_at n us) → Opens n us v
  opens zero us v e h = subst (λ (ws : List Ty). Opens 0 ws v) (sym e) (opens_nat v h)
  opens (suc d) us (number n) e h = cc h
  opens (suc d) us (boolean b) e h = cc h
  opens (suc d) us (made c vs) e h =
      let o = h.0 in
      let q = numbered_constructor th c o h.1 in
      let same : suc d ≡ o.datatype = ap number_of h.2.1 in
      let place : q.place ≡ d = omega (arith, q.number, same) in
      let arguments : h.2.0 ≡ us = sym (same_arguments (suc d) o.datatype us h.2.0 h.2.1) in
      opens_at d us q.datatype c vs o (subst (λ (k : ℕ). slice_get th.datatypes k ≡ Some q.datatype) place q.is)
      (subst (λ (k : ℕ). first_constructor th.datatypes (suc k) ≤ c) place q.after)
      (subst (λ (k : ℕ). slice_get q.datatype.constructors (c - first_constructor th.datatypes (suc k)) ≡ Some o.constructor) place q.constructor)
      (subst (λ (ws : List Ty). HaveTypes th vs (map (instance ws) o.constructor.arguments)) arguments h.2.2)

-- The term of a value has the value's type, and so a test is well formed.
use Rattle.std.proofs.Common.{ℕ, zero, suc, ◌≡◌, ◌<◌, ◌≤◌, ◌+◌, inl, inr, List, [], ◌∷◌, map, length, Some, refl, sym, ◌∙◌, ap, ap₂, subst, arith}
use Rattle.std.specs.Prelude.{slice_get, unwrap_or}
use Rattle.std.proofs.lemmas.Option.{none-some, same_Some}
use Rattle.tg_model.specs.Types as types
use Rattle.tg_model.specs.Types.{Ty, nat, bool, parameter, meta, applied, Tys, tys, elements}
use Rattle.tg_model.specs.Value as value
use Rattle.tg_model.specs.Value.{Value, Values, number, boolean, made}
use Rattle.tg_model.specs.Theory.{Theory, Datatype, Constructor, Owned, constructor_at, numbered, instance, instances, IsClosed, AreClosed}
use Rattle.tg_model.specs.Typing.{HasType, HaveTypes, AreTyped}
use Rattle.tg_model.specs.TermTyping.{Typing, Typings, leaf, instanced, type_of, types_of, IsTyping, AreTypings, IsTyped, AreListTyped, IsDatatype}
use Rattle.tg_model.specs.TermTyping as typing
use Rattle.tg_model.specs.WellTyped.{IsBefore, AreBefore}
use Rattle.tg_model.specs.Accepted.{IsAccepted, IsArgument, AreArguments, AreConstructors, parameters_from}
use Rattle.tg_model.specs.Formula.{both, tested}
use Rattle.tg_model.proofs.Constructors.{numbers_are_places}
use Rattle.tg_model.proofs.ValueTyping.{elements-tys}
use Rattle.tg_model.proofs.Keeping.{substitution_keeps_form}
use Rattle.tg_hyps.specs.Written.{term_of, terms_of}
use Rattle.tg_hyps.specs.Hypotheses.{checked}
use Rattle.tg_hyps.specs.Meaning.{TestsAreWellFormed}
use Rattle.tg_hyps.proofs.ClosedForm.{some_typed}

-- ---- the arguments' types of a constructor at closed types

closed_item : (th : Theory) (us : List Ty) (n : ℕ) → AreClosed th (tys us) → n < length us → IsClosed th (unwrap_or (slice_get us n) nat)
closed_item th [] n h low = absurd (omega (arith, low))
closed_item th (u ∷ us) zero h low = h.0
closed_item th (u ∷ us) (suc n) h low = closed_item th us n h.1 (omega (arith, low))

count_instances : (us : List Ty) (ts : Tys) → length (elements (instances us ts)) ≡ length (elements ts)
count_instances us types.none = refl
count_instances us (types.more t ts) = ap suc (count_instances us ts)

module _ (th : Theory) (d params : ℕ) (us : List Ty) (closed : AreClosed th (tys us)) (count : length us ≡ params) where
  mutual
    closed_at : (t : Ty) → IsBefore th d params t → IsClosed th (instance us t)
    closed_at nat h = tt
    closed_at bool h = tt
    closed_at (parameter zero) h = absurd (let low = h.0 in omega (arith, low))
    closed_at (parameter (suc n)) h = closed_item th us n closed (let high = h.1 in omega (arith, high, count))
    closed_at (meta n) h = absurd h
    closed_at (applied e ts) h = let x = h.0.1 in ((x.0, x.1, count_instances us ts ∙ x.2), all_closed_at ts h.1)

    all_closed_at : (ts : Tys) → AreBefore th d params ts → AreClosed th (instances us ts)
    all_closed_at types.none h = tt
    all_closed_at (types.more t ts) h = (closed_at t h.0, all_closed_at ts h.1)

  own_parameters : (n k : ℕ) → 0 < n → n + k ≤ suc params → AreBefore th d params (tys (parameters_from n k))
  own_parameters n zero low high = tt
  own_parameters n (suc k) low high = ((low, omega (arith, high)), own_parameters (suc n) k (omega arith) (omega (arith, high)))

  count_parameters : (n k : ℕ) → length (elements (tys (parameters_from n k))) ≡ k
  count_parameters n zero = refl
  count_parameters n (suc k) = ap suc (count_parameters (suc n) k)

  module _ (x : Datatype) (is : numbered th.datatypes d ≡ Some x) (parameters : x.parameters ≡ params) where
    argument_closed : (t : Ty) → IsArgument th d params t → IsClosed th (instance us t)
    argument_closed t (inl before) = closed_at t before
    argument_closed t (inr itself) =
        let ts : Tys = tys (parameters_from 1 params) in
        let data_closed : IsClosed th (instance us (applied d ts)) =
        ((x, is, count_instances us ts ∙ count_parameters 1 params ∙ sym parameters), all_closed_at ts (own_parameters 1 params (omega arith) (omega arith))) in
        subst (λ u. IsClosed th (instance us u)) (sym itself) data_closed

    arguments_closed : (ts : List Ty) → AreArguments th d params ts → AreClosed th (tys (map (instance us) ts))
    arguments_closed [] h = tt
    arguments_closed (t ∷ ts) h = (argument_closed t h.0, arguments_closed ts h.1)

arguments_of : (th : Theory) (d params : ℕ) (ks : List Constructor) → AreConstructors th d params ks → (j : ℕ) (k : Constructor) → slice_get ks j ≡ Some k
    → AreArguments th d params k.arguments
arguments_of th d params [] h j k e = absurd (none-some k e)
arguments_of th d params (y ∷ ks) h zero k e = subst (λ (z : Constructor). AreArguments th d params z.arguments) (same_Some y k e) h.0
arguments_of th d params (y ∷ ks) h (suc j) k e = arguments_of th d params ks h.1 j k e

-- ---- terms of values

-- a datatype at closed types, and the arguments of one of its constructors there
pub closed_data : (th : Theory) → IsAccepted th → (c : ℕ) (o : Owned) (us : List Ty) → constructor_at th c ≡ Some o → IsClosed th (applied o.datatype (tys us))
    → IsDatatype th o.datatype us × AreClosed th (tys (map (instance us) o.constructor.arguments))
closed_data th accepted c o us here ((x, is, count), closed) =
    let place = (numbers_are_places th c o).0 here in
    let y : Datatype = place.2.0 in
    let same : y ≡ x = same_Some y x (sym place.2.1 ∙ is) in
    let counted : length us ≡ x.parameters = ap length (sym (elements-tys us)) ∙ count in
    let there : slice_get x.constructors place.0 ≡ Some o.constructor = subst (λ (z : Datatype). slice_get z.constructors place.0 ≡ Some o.constructor) same place.2.2 in
    of_number th accepted o.datatype us x is counted closed place.0 o.constructor there
  where
    of_number : (th : Theory) → IsAccepted th → (d : ℕ) (us : List Ty) (x : Datatype) → numbered th.datatypes d ≡ Some x → length us ≡ x.parameters
        → AreClosed th (tys us) → (j : ℕ) (k : Constructor) → slice_get x.constructors j ≡ Some k
        → IsDatatype th d us × AreClosed th (tys (map (instance us) k.arguments))
    of_number th accepted zero us x is count closed j k there = absurd (none-some x is)
    of_number th accepted (suc d) us x is count closed j k there = (
      (x, is, count),
      arguments_closed th (suc d) x.parameters us closed count x is refl k.arguments
          (arguments_of th (suc d) x.parameters x.constructors (accepted.constructors d x is) j k there),
    )

module _ (th : Theory) (accepted : IsAccepted th) where
  mutual
    typed_value : (v : Value) (t : Ty) → IsClosed th t → HasType th v t → IsTyped th [] [] (term_of v) t
    typed_value (number n) t closed e = (leaf t, e, refl)
    typed_value (boolean b) t closed e = (leaf t, e, refl)
    typed_value (made c vs) t closed (o, here, (us, e, typed)) =
        let of_data = closed_data th accepted c o us here (subst (IsClosed th) e closed) in
        let below = typed_values vs (map (instance us) o.constructor.arguments) of_data.1 typed in
        (instanced us t below.0, (o, here, of_data.0, e, below.2, below.1), refl)

    typed_values : (vs : Values) (ts : List Ty) → AreClosed th (tys ts) → HaveTypes th vs ts
        → (ds : Typings) × AreTypings th [] [] (terms_of vs) ds × (types_of ds ≡ ts)
    typed_values value.none [] closed h = (typing.none, tt, refl)
    typed_values value.none (t ∷ ts) closed h = absurd h
    typed_values (value.more v vs) [] closed h = absurd h
    typed_values (value.more v vs) (t ∷ ts) closed h =
        let first = typed_value v t closed.0 h.0 in
        let rest = typed_values vs ts closed.1 h.1 in
        (typing.more first.0 rest.0, (first.1, rest.1), ap₂ (λ (a : Ty) l. a ∷ l) first.2 rest.2)

  pub list_typed : (vs : List Value) (ts : List Ty) → AreClosed th (tys ts) → AreTyped th vs ts → AreListTyped th [] [] (map term_of vs) ts
  list_typed [] [] closed h = tt
  list_typed [] (t ∷ ts) closed h = absurd h
  list_typed (v ∷ vs) [] closed h = absurd h
  list_typed (v ∷ vs) (t ∷ ts) closed h = (typed_value v t closed.0 h.0, list_typed vs ts closed.1 h.1)

pub tests_are_well_formed : TestsAreWellFormed
tests_are_well_formed th c vs accepted of typed =
    substitution_keeps_form th [] [] c.variables (map term_of vs) (both (tested c.inputs) (checked c)) (list_typed th accepted vs c.variables of.closed typed)
    (of.inputs, some_typed th c.variables c.checks of.checks)

-- In a well-typed theory, on a table whose answers have the program's type, calls give values of their types: so every typed
-- term has a value of its type.
use Rattle.std.proofs.Common.{ℕ, zero, suc, ◌≡◌, ◌<◌, ◌≤◌, ◌+◌, Bool, true, false, List, [], ◌∷◌, ◌++◌, map, length, Option, Some, refl, sym, ◌∙◌, ap, subst, inl, inr, nat_eq, nat_lt, if◌then◌else◌, arith}
use Rattle.std.specs.Prelude.{slice_get, unwrap_or, option_map}
use Rattle.std.specs.Option.{option_map_or}
use Rattle.std.proofs.lemmas.Bool.{eq-eqb, ne_eqb, lt-ltb}
use Rattle.std.proofs.lemmas.Bool.Decides.{eqb_tells}
use Rattle.std.proofs.lemmas.List.{map-append, length-map}
use Rattle.std.proofs.lemmas.Option.{slice_get-map, slice_get_within}
use Rattle.tg_model.specs.Types.{Ty, tys}
use Rattle.tg_model.specs.Tree.{Tree, Trees}
use Rattle.tg_model.specs.Value.{Value, values, wrong, size, same_values}
use Rattle.tg_model.specs.Theory.{Theory, Function, Body, plain, recursive, numbered, first_constructor, instance, datatype_of, IsClosed, AreClosed}
use Rattle.tg_model.specs.Typing.{HasType, AreTyped, least}
use Rattle.tg_model.specs.Table.{Table, recorded, answer_of, IsTable}
use Rattle.tg_model.specs.Denotation.{World, Recursion, with_calls, value_in, values_in, opened, place_of, others, lower_calls, recursive_value, body_value, world_below, world, den}
use Rattle.tg_model.specs.TermTyping.{IsTyped, type_of, EachCall, IsDatatype, datatype_at, constructor_arguments}
use Rattle.tg_model.specs.WellTyped.{IsLower, AreCases, IsBody, IsWellTyped}
use Rattle.tg_model.specs.Laws.{IsTypeSound}
use Rattle.tg_model.specs.TypeLaws.{IsTypeSoundAt}
use Rattle.tg_model.proofs.Booleans.{if_true, if_false}
use Rattle.tg_model.proofs.Places.{get_right, get_within}
use Rattle.tg_model.proofs.Agreement.{each_call}
use Rattle.tg_model.proofs.Inhabited.{least_has_type, closed_instance, list_closed_instance}
use Rattle.tg_model.proofs.ValueTyping.{typed_append, typed_length, opens}
use Rattle.tg_model.proofs.TermSoundness.{sound, datatype_instance, is_datatype_instance, arguments_composed, mapped_back}
use Rattle.tg_model.proofs.TheorySoundness.{world_first, world_answers, smaller, case_at, typed_others, typed_place, listed_value}

pub datatype_of_at : (d : ℕ) (us : List Ty) → datatype_of (datatype_at d us) ≡ d
datatype_of_at zero us = refl
datatype_of_at (suc d) us = refl

module _ (th : Theory) (tb : Table) (wt : IsWellTyped th) (answered : (vs : List Value) → HasType th (answer_of th tb vs) th.program.answer) where
  -- the program's types have no parameters
  program_answers : (n : ℕ) (us : List Ty) (vs : List Value) → AreTyped th vs (map (instance us) th.program.inputs)
      → HasType th ((world_below th tb n).answers vs) (instance us th.program.answer)
  program_answers n us vs h =
      subst (λ (t : Ty). HasType th ((world_below th tb n).answers vs) t) (sym (closed_instance th us th.program.answer wt.answer))
      (subst (λ (v : Value). HasType th v th.program.answer) (sym (world_answers th tb n vs)) (answered vs))

  -- calls of the functions up to `n` give values of their types
  abbrev CallsTyped : ℕ → Type 0
  CallsTyped n = (f : ℕ) (x : Function) (us : List Ty) (vs : List Value) → f ≤ n → numbered th.functions f ≡ Some x
      → AreTyped th vs (map (instance us) x.arguments) → HasType th ((world_below th tb n).calls f vs) (instance us x.answer)

  typed_term : (n : ℕ) (us vars : List Ty) (env : List Value) (t : Tree) (u : Ty) → CallsTyped n → AreTyped th env (map (instance us) vars)
      → EachCall (λ f ts. f < suc n) t → IsTyped th vars [] t u → HasType th (value_in (world_below th tb n) env [] t) (instance us u)
  typed_term n us vars env t u calls typed each d =
      subst (λ (x : Ty). HasType th (value_in (world_below th tb n) env [] t) (instance us x)) d.2
      (sound th (world_below th tb n) us vars env (world_first th tb n) typed (program_answers n us) (λ f ts. f < suc n)
      (λ loc f ts x vs low is args. calls f x vs (values_in (world_below th tb n) env loc ts) (omega arith) is args) t d.0 [] [] tt each d.1)

  -- the recursive function of number `n + 1`
  module _ (n : ℕ) (calls : CallsTyped n) (x : Function) (is_function : numbered th.functions (suc n) ≡ Some x) (place : ℕ) (cases : List Tree)
      (d : ℕ) (args : List Ty) (at_place : numbered x.arguments place ≡ Some (datatype_at d args)) (is_datatype : IsDatatype th d args)
      (are_cases : AreCases th (suc n) x place cases (constructor_arguments th d args)) where
    abbrev w : World
    w = world_below th tb n

    abbrev r : Recursion
    r = record { self = suc n; place = place; datatype = d; cases = cases }

    abbrev value_at : ℕ → List Value → Value
    value_at m vs = recursive_value w r m vs

    -- the world of the body at `vs`, where own calls are those below `m`
    abbrev inner : ℕ → List Value → World
    inner m vs = with_calls w (lower_calls r (value_at m) w.calls vs)

    abbrev Typed_below : ℕ → Type 0
    Typed_below m = (us : List Ty) (vs : List Value) → AreTyped th vs (map (instance us) x.arguments) → size (place_of vs place) < m
        → HasType th (value_at m vs) (instance us x.answer)

    -- an allowed call in the body gives a value of its type
    allowed_call : (m : ℕ) → Typed_below m → (us : List Ty) (vs : List Value) (parts : List Value) (k : ℕ)
        → opened d (first_constructor th.datatypes d) (place_of vs place) ≡ Some (k, parts) → size (place_of vs place) < suc m
        → (start count : ℕ) → length (others vs place) ≡ start → length parts ≡ count
        → (loc : List Value) (f : ℕ) (ts : Trees) (y : Function) (us' : List Ty) → IsLower (suc n) place start count f ts → numbered th.functions f ≡ Some y
        → AreTyped th (values_in (inner m vs) (others vs place ++ parts) loc ts) (map (instance us') y.arguments)
        → HasType th ((inner m vs).calls f (values_in (inner m vs) (others vs place ++ parts) loc ts)) (instance us' y.answer)
    allowed_call m typed_below us vs parts k is_opened low start count s c loc f ts y us' (inl earlier) is typed =
        let ws = values_in (inner m vs) (others vs place ++ parts) loc ts in
        let other : nat_eq f (suc n) ≡ false = ne_eqb f (suc n) (λ e. omega arith) in
        subst (λ (v : Value). HasType th v (instance us' y.answer)) (sym (if_false _ (w.calls f ws) (nat_eq f (suc n)) other))
        (calls f y us' ws (omega arith) is typed)
    allowed_call m typed_below us vs parts k is_opened low start count s c loc f ts y us' (inr (e, (i, within, variable))) is typed =
        let env = others vs place ++ parts in
        let ws = values_in (inner m vs) env loc ts in
        let part = get_within parts i (omega (arith, c)) in
        let there : slice_get env (start + i) ≡ Some part.0 =
        let swap : start + i ≡ i + length (others vs place) = omega (arith, s) in
        ap (slice_get env) swap ∙ (get_right (others vs place) parts i ∙ part.1) in
        let argument : place_of ws place ≡ part.0 =
        ap (λ (o : Option Value). unwrap_or o wrong) (listed_value (inner m vs) env loc ts place ∙ ap (option_map (value_in (inner m vs) env loc)) variable)
        ∙ ap (λ (o : Option Value). unwrap_or o wrong) there in
        let falls : size (place_of ws place) < size (place_of vs place) =
        let h = smaller d (first_constructor th.datatypes d) (place_of vs place) k parts is_opened i part.0 part.1 in
        subst (λ (v : Value). size v < size (place_of vs place)) (sym argument) h in
        let same_function : x ≡ y = let g : Some x ≡ Some y = sym is_function ∙ (ap (numbered th.functions) (sym e) ∙ is) in cc in
        let own : nat_eq f (suc n) ≡ true = eq-eqb f (suc n) e in
        subst (λ (v : Value). HasType th v (instance us' y.answer))
        (sym (if_true _ (w.calls f ws) (nat_eq f (suc n)) own ∙ if_true (value_at m ws) wrong (nat_lt (size (place_of ws place)) (size (place_of vs place))) (lt-ltb _ _ falls)))
        (subst (λ (z : Function). HasType th (value_at m ws) (instance us' z.answer)) same_function
        (typed_below us' ws (subst (λ (z : Function). AreTyped th ws (map (instance us') z.arguments)) (sym same_function) typed) (omega arith)))

    -- what the body's case makes of the constructor that was found
    abbrev case_of : ℕ → List Value → Option (ℕ × List Value) → Value
    case_of m vs o = option_map_or
        (λ (p : ℕ × List Value). option_map_or (λ t. value_in (inner m vs) (others vs place ++ p.1) [] t) (slice_get cases p.0) wrong) o wrong

    value_typed : (m : ℕ) → Typed_below m
    value_typed zero us vs typed low = absurd (omega arith)
    value_typed (suc m) us vs typed low =
        let v = place_of vs place in
        let scrutinee : HasType th v (datatype_at d (map (instance us) args)) =
        subst (λ (t : Ty). HasType th v t) (datatype_instance us d args) (typed_place th (instance us) place vs x.arguments (datatype_at d args) typed at_place) in
        let o = opens th d (map (instance us) args) v (is_datatype_instance th us d args is_datatype) scrutinee in
        let declared = mapped_back (map (instance us)) (slice_get (constructor_arguments th d args) o.place) o.arguments
        (sym (slice_get-map (map (instance us)) (constructor_arguments th d args) o.place)
        ∙ (ap (λ l. slice_get l o.place) (sym (arguments_composed th us d args)) ∙ o.found)) in
        let c = case_at th (suc n) x place cases (constructor_arguments th d args) o.place declared.0 are_cases declared.1 in
        let taken : opened d (w.first d) v ≡ Some (o.place, o.parts) = ap (λ k. opened d k v) (world_first th tb n d) ∙ o.is in
        let parts : AreTyped th o.parts (map (instance us) declared.0) = subst (λ (ts : List Ty). AreTyped th o.parts ts) (sym declared.2) o.typed in
        let rest : AreTyped th (others vs place) (map (instance us) (others x.arguments place)) = typed_others th (instance us) place vs x.arguments typed in
        let env : AreTyped th (others vs place ++ o.parts) (map (instance us) (others x.arguments place ++ declared.0)) =
        subst (λ (ts : List Ty). AreTyped th (others vs place ++ o.parts) ts) (sym (map-append (instance us) (others x.arguments place) declared.0))
        (typed_append th (others vs place) o.parts (map (instance us) (others x.arguments place)) (map (instance us) declared.0) rest parts) in
        let start = typed_length th (others vs place) (map (instance us) (others x.arguments place)) rest ∙ length-map (others x.arguments place) (instance us) in
        let count = typed_length th o.parts (map (instance us) declared.0) parts ∙ length-map declared.0 (instance us) in
        let body = sound th (inner m vs) us (others x.arguments place ++ declared.0) (others vs place ++ o.parts) (world_first th tb n) env (program_answers n us)
        (IsLower (suc n) place (length (others x.arguments place)) (length declared.0))
        (allowed_call m (value_typed m) us vs o.parts o.place o.is low (length (others x.arguments place)) (length declared.0) start count)
        c.0 c.3.0 [] [] tt c.2 c.3.1 in
        subst (λ (z : Value). HasType th z (instance us x.answer))
        (sym (ap (case_of m vs) taken ∙ ap (λ (t : Option Tree). option_map_or (λ t. value_in (inner m vs) (others vs place ++ o.parts) [] t) t wrong) c.1))
        (subst (λ (t : Ty). HasType th (value_in (inner m vs) (others vs place ++ o.parts) [] c.0) (instance us t)) c.3.2 body)

  body_typed : (n : ℕ) → CallsTyped n → (x : Function) → numbered th.functions (suc n) ≡ Some x → (b : Body) → IsBody th (suc n) x b
      → (us : List Ty) (vs : List Value) → AreTyped th vs (map (instance us) x.arguments) → HasType th (body_value (world_below th tb n) (suc n) x b vs) (instance us x.answer)
  body_typed n calls x is (plain t) h us vs typed = typed_term n us x.arguments vs t x.answer calls typed h.0 h.1
  body_typed n calls x is (recursive place cases) (d, args, at_place, is_datatype, are_cases) us vs typed =
      let number : option_map_or datatype_of (numbered x.arguments place) 0 ≡ d =
      ap (λ (o : Option Ty). option_map_or datatype_of o 0) at_place ∙ datatype_of_at d args in
      subst (λ (e : ℕ). HasType th (recursive_value (world_below th tb n) (record { self = suc n; place = place; datatype = e; cases = cases })
      (suc (size (place_of vs place))) vs) (instance us x.answer)) (sym number)
      (value_typed n calls x is place cases d args at_place is_datatype are_cases (suc (size (place_of vs place))) us vs typed (omega arith))

  abbrev called_at : ℕ → List Value → Option Function → Value
  called_at n vs o = option_map_or (λ (y : Function). body_value (world_below th tb n) (suc n) y y.body vs) o wrong

  -- the function of the greatest number that may be called
  last_typed : (n : ℕ) → CallsTyped n → (x : Function) (us : List Ty) (vs : List Value) → numbered th.functions (suc n) ≡ Some x
      → AreTyped th vs (map (instance us) x.arguments) → HasType th ((world_below th tb (suc n)).calls (suc n) vs) (instance us x.answer)
  last_typed n calls x us vs is typed =
      subst (λ (v : Value). HasType th v (instance us x.answer))
      (sym (if_true (called_at n vs (numbered th.functions (suc n))) ((world_below th tb n).calls (suc n) vs) (nat_eq (suc n) (suc n)) (eq-eqb (suc n) (suc n) refl)
      ∙ ap (called_at n vs) is))
      (body_typed n calls x is x.body (wt.functions (suc n) x is) us vs typed)

  earlier_typed : (n : ℕ) → CallsTyped n → (f : ℕ) (x : Function) (us : List Ty) (vs : List Value) → f ≤ n → nat_eq f (suc n) ≡ false → numbered th.functions f ≡ Some x
      → AreTyped th vs (map (instance us) x.arguments) → HasType th ((world_below th tb (suc n)).calls f vs) (instance us x.answer)
  earlier_typed n calls f x us vs low other is typed =
      subst (λ (v : Value). HasType th v (instance us x.answer))
      (sym (if_false (option_map_or (λ (y : Function). body_value (world_below th tb n) f y y.body vs) (numbered th.functions f) wrong)
      ((world_below th tb n).calls f vs) (nat_eq f (suc n)) other))
      (calls f x us vs low is typed)

  calls_typed : (n : ℕ) → CallsTyped n
  calls_typed zero zero x us vs low is typed = cc is
  calls_typed zero (suc f) x us vs low is typed = absurd (omega arith)
  calls_typed (suc n) f x us vs low is typed =
      elim (eqb_tells f (suc n)) [
        | inl p ↦ subst (λ (g : ℕ). HasType th ((world_below th tb (suc n)).calls g vs) (instance us x.answer)) (sym p.1)
            (last_typed n (calls_typed n) x us vs (ap (numbered th.functions) (sym p.1) ∙ is) typed)
        | inr p ↦ earlier_typed n (calls_typed n) f x us vs (omega (arith, p.1)) p.0 is typed
      ]

  -- at an instance of type parameters
  pub typed_at_instance : (us vars locs : List Ty) (env loc : List Value) (t : Tree) (u : Ty) → AreTyped th env (map (instance us) vars)
      → AreTyped th loc (map (instance us) locs) → IsTyped th vars locs t u → HasType th (den th tb env loc t) (instance us u)
  typed_at_instance us vars locs env loc t u typed_env typed_loc (d, h, e) =
      let here : HasType th (den th tb env loc t) (instance us (type_of d)) =
      sound th (world th tb) us vars env (world_first th tb (length th.functions)) typed_env
      (program_answers (length th.functions) us) (λ f ts. Unit {0})
      (λ l f ts x vs allowed is args. calls_typed (length th.functions) f x vs (values_in (world th tb) env l ts) (declared f x is) is args)
      t d locs loc typed_loc (each_call (λ f ts. Unit {0}) (λ f ts. tt) t) h in
      subst (λ (x : Ty). HasType th (den th tb env loc t) (instance us x)) e here
    where
      declared : (f : ℕ) (x : Function) → numbered th.functions f ≡ Some x → f ≤ length th.functions
      declared zero x is = cc is
      declared (suc f) x is = slice_get_within th.functions f x is

  pub term_typed : (vars locs : List Ty) (env loc : List Value) (t : Tree) (u : Ty) → AreClosed th (tys vars) → AreClosed th (tys locs) → IsClosed th u
      → AreTyped th env vars → AreTyped th loc locs → IsTyped th vars locs t u → HasType th (den th tb env loc t) u
  term_typed vars locs env loc t u closed_vars closed_locs closed_u typed_env typed_loc typed =
      subst (λ (x : Ty). HasType th (den th tb env loc t) x) (closed_instance th [] u closed_u)
      (typed_at_instance [] vars locs env loc t u
      (subst (λ (ts : List Ty). AreTyped th env ts) (sym (list_closed_instance th [] vars closed_vars)) typed_env)
      (subst (λ (ts : List Ty). AreTyped th loc ts) (sym (list_closed_instance th [] locs closed_locs)) typed_loc) typed)

-- the answers of a table of declared types
recorded_typed : (th : Theory) (tb : Table) (vs : List Value) (d : Value) → IsTable th tb → HasType th d th.program.answer
    → HasType th (unwrap_or (recorded tb vs) d) th.program.answer
recorded_typed th [] vs d h k = k
recorded_typed th (e ∷ tb) vs d h k = either (same_values (values e.inputs) (values vs)) e.answer (recorded tb vs) d h.1 (recorded_typed th tb vs d h.3 k)
  where
    either : (b : Bool) (v : Value) (o : Option Value) (x : Value) → HasType th v th.program.answer → HasType th (unwrap_or o x) th.program.answer
        → HasType th (unwrap_or (if b then Some v else o) x) th.program.answer
    either true v o x p q = p
    either false v o x p q = q

pub answers_typed : (th : Theory) (tb : Table) → IsWellTyped th → IsTable th tb → (vs : List Value) → HasType th (answer_of th tb vs) th.program.answer
answers_typed th tb wt table vs = recorded_typed th tb vs (least th th.program.answer) table (least_has_type th wt th.program.answer wt.answer)

pub soundness : IsTypeSound
soundness th tb wt table vars locs env loc t u closed_vars closed_locs closed_u typed_env typed_loc typed =
    term_typed th tb wt (answers_typed th tb wt table) vars locs env loc t u closed_vars closed_locs closed_u typed_env typed_loc typed

pub soundness_at_instances : IsTypeSoundAt
soundness_at_instances th tb wt table us vars locs env loc t u typed_env typed_loc typed =
    typed_at_instance th tb wt (answers_typed th tb wt table) us vars locs env loc t u typed_env typed_loc typed

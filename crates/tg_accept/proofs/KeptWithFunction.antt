-- A function without a fault keeps what is said of all that is declared.
use Rattle.std.proofs.Common.{ℕ, zero, suc, ◌≡◌, ◌<◌, Bool, true, false, not, nat_eq, List, [], ◌∷◌, ◌++◌, map, length, Option, Some, None, refl, sym, ◌∙◌, ap, subst, inl, inr, arith, append_assoc}
use Rattle.std.specs.Prelude.{slice_get}
use Rattle.std.specs.Option.{option_map_or}
use Rattle.std.specs.List.{list_any}
use Rattle.std.proofs.lemmas.List.{append-nil, map-append, length-map, length-append}
use Rattle.tg_model.specs.Tree.{Tree}
use Rattle.tg_model.specs.Types as types
use Rattle.tg_model.specs.Types.{Ty, Tys, nat, bool, parameter, meta, applied, tys, elements}
use Rattle.tg_model.specs.Theory.{Theory, Datatype, Constructor, Function, Body, plain, recursive, numbered, datatype_of, instance}
use Rattle.tg_model.specs.Denotation.{others}
use Rattle.tg_model.specs.TermTyping.{IsDatatype, datatype_at, constructor_arguments}
use Rattle.tg_model.specs.WellTyped.{AreBefore, IsLower, AreCases, IsBody}
use Rattle.tg_model.specs.Calls.{has_call}
use Rattle.tg_model.specs.Accepted.{AreDistinct, constructor_names, bodies, HaveNoCall, UseThemselves, UsesItself}
use Rattle.tg_model.proofs.Booleans.{and_left, and_right}
use Rattle.tg_accept.specs.Declared.{Declared, theory, with_function}
use Rattle.tg_accept.specs.Laws.{Widens}
use Rattle.tg_accept.specs.Kept.{names_of_values, name_of_program, IsKept}
use Rattle.tg_accept.specs.Faults as faults
use Rattle.tg_accept.specs.Faults.{Fault, is_taken, each_call, is_lower_use, recursive_arguments, are_cases_shaped, is_body_shaped, function_fault}
use Rattle.tg_accept.specs.Meant.{IsBodyTyped, IsFunctionMeant}
use Rattle.tg_accept.proofs.Names.{put_one}
use Rattle.tg_accept.proofs.NoFaults.{no_fault_if, not_false}
use Rattle.tg_accept.proofs.CoreWidening.{same_arguments, typed_widened}
use Rattle.tg_accept.proofs.Widening.{same_datatype}
use Rattle.tg_accept.proofs.KeptTypes.{all_before_widened, numbered_before}
use Rattle.tg_accept.proofs.KeptAlong.{IsFunctionOf, datatype_along, function_along, program_along, specification_along}
use Rattle.tg_accept.proofs.KeptWithDatatype.{cases_last}
use Rattle.tg_accept.proofs.KeepFunctions.{IsDeclared, calls_declared, every_call, Both, tested_calls, lower_call, no_calls}

-- two lists of lists of the same lengths
abbrev Alike : List (List Bool) → List (List Ty) → Type 0
Alike [] [] = Unit {0}
Alike (l ∷ ls) (ts ∷ rest) = (length l ≡ length ts) × Alike ls rest
Alike ls rest = ⊥

alike : (us : List Ty) (d : ℕ) (cs : List Constructor)
    → Alike (map (λ (c : Constructor). map (λ t. nat_eq (datatype_of t) d) c.arguments) cs) (map (λ (k : Constructor). map (instance us) k.arguments) cs)
alike us d [] = tt
alike us d (c ∷ cs) = (length-map c.arguments (λ t. nat_eq (datatype_of t) d) ∙ sym (length-map c.arguments (instance us)), alike us d cs)

as_many : (self place start : ℕ) (ts : List Tree) (ls : List (List Bool)) (args : List (List Ty)) → Alike ls args
    → are_cases_shaped self place start ts ls ≡ true → length ts ≡ length args
as_many self place start [] [] [] a e = refl
as_many self place start [] [] (x ∷ args) a e = absurd a
as_many self place start [] (l ∷ ls) args a e = cc e
as_many self place start (t ∷ ts) [] args a e = cc e
as_many self place start (t ∷ ts) (l ∷ ls) [] a e = absurd a
as_many self place start (t ∷ ts) (l ∷ ls) (x ∷ args) a e =
    ap suc (as_many self place start ts ls args a.1 (and_right (each_call (is_lower_use self place start l) t) (are_cases_shaped self place start ts ls) e))

cases_fit : (th : Theory) (x : Function) (place : ℕ) (ts : List Tree) (ls : List (List Bool)) (args : List (List Ty)) → Alike ls args
    → are_cases_shaped (length th.functions) place (length (others x.arguments place)) ts ls ≡ true
    → UseThemselves th (length th.functions) x place ts args → AreCases th (length th.functions) x place ts args
cases_fit th x place [] [] [] a e h = tt
cases_fit th x place [] [] (y ∷ args) a e h = absurd a
cases_fit th x place [] (l ∷ ls) args a e h = cc e
cases_fit th x place (t ∷ ts) [] args a e h = cc e
cases_fit th x place (t ∷ ts) (l ∷ ls) [] a e h = absurd a
cases_fit th x place (t ∷ ts) (l ∷ ls) (ys ∷ args) a e ((d, typing, q, uses), rest) =
    let self = length th.functions in
    let start = length (others x.arguments place) in
    let test = is_lower_use self place start l in
    let shaped = and_left (each_call test t) (are_cases_shaped self place start ts ls) e in
    let here = tested_calls test (IsDeclared th (others x.arguments place ++ ys)) t (calls_declared th (others x.arguments place ++ ys) t d [] typing) shaped in (
      every_call (Both test (IsDeclared th (others x.arguments place ++ ys))) (IsLower self place start (length ys))
          (λ f us p. lower_call self place start (length ys) l a.0 f us p.0.1 p.1) t here,
      (d, typing, q),
      cases_fit th x place ts ls args a.1 (and_right (each_call test t) (are_cases_shaped self place start ts ls) e) rest,
    )

-- what is known where the shape of a primitive recursive function is right
record Matched (D : Declared) (x : Function) (place : ℕ) (cases : List Tree) : Type 0 where
  pub datatype : ℕ
  pub instance_at : List Ty
  pub at : numbered x.arguments place ≡ Some (datatype_at datatype instance_at)
  pub is : IsDatatype (theory [] D) datatype instance_at
  pub flags : List (List Bool)
  pub same : Alike flags (constructor_arguments (theory [] D) datatype instance_at)
  pub shaped : are_cases_shaped (suc (length D.functions)) place (length (others x.arguments place)) cases flags ≡ true

tys_elements : (ts : Tys) → tys (elements ts) ≡ ts
tys_elements types.none = refl
tys_elements (types.more t ts) = ap (λ l. types.more t l) (tys_elements ts)

module _ (D : Declared) (x : Function) (place : ℕ) (cases : List Tree) (made : AreBefore (theory [] D) (suc (length D.datatypes)) x.parameters (tys x.arguments)) where
  abbrev Right : List (List Bool) → Bool
  Right = are_cases_shaped (suc (length D.functions)) place (length (others x.arguments place)) cases

  of_datatype : (d : ℕ) (ts : Tys) (o : Option Datatype) → slice_get D.datatypes d ≡ o → numbered x.arguments place ≡ Some (applied (suc d) ts)
      → option_map_or Right
      (option_map_or (λ (y : Datatype). Some (map (λ (c : Constructor). map (λ t. nat_eq (datatype_of t) (suc d)) c.arguments) y.constructors)) o None) false ≡ true
      → Matched D x place cases
  of_datatype d ts None f at e = cc e
  of_datatype d ts (Some y) f at e =
      let before = numbered_before (theory [] D) (suc (length D.datatypes)) x.parameters x.arguments place (applied (suc d) ts) made at in
      let z : Datatype = before.0.1.0 in
      let same : z ≡ y = (let q : Some z ≡ Some y = sym before.0.1.1 ∙ f in cc q) in
      let args : constructor_arguments (theory [] D) (suc d) (elements ts) ≡ map (λ (k : Constructor). map (instance (elements ts)) k.arguments) y.constructors =
      ap (λ o. option_map_or (λ (y : Datatype). map (λ (k : Constructor). map (instance (elements ts)) k.arguments) y.constructors) o []) f in
      let flags = map (λ (c : Constructor). map (λ t. nat_eq (datatype_of t) (suc d)) c.arguments) y.constructors in
      record {
        datatype = suc d;
        instance_at = elements ts;
        at = at ∙ ap (λ l. Some (applied (suc d) l)) (sym (tys_elements ts));
        is = (y, f, before.0.1.2 ∙ ap (λ (w : Datatype). w.parameters) same);
        flags = flags;
        same = subst (Alike flags) (sym args) (alike (elements ts) (suc d) y.constructors);
        shaped = e;
      }

  of_type : (t : Ty) → numbered x.arguments place ≡ Some t → option_map_or Right (recursive_arguments D.datatypes t) false ≡ true → Matched D x place cases
  of_type nat at e = record { datatype = 0; instance_at = []; at = at; is = refl; flags = [] ∷ (true ∷ []) ∷ []; same = (refl, (refl, tt)); shaped = e }
  of_type bool at e = cc e
  of_type (parameter n) at e = cc e
  of_type (meta n) at e = cc e
  of_type (applied zero ts) at e = cc e
  of_type (applied (suc d) ts) at e = of_datatype d ts (slice_get D.datatypes d) refl at e

  matched : (o : Option Ty) → numbered x.arguments place ≡ o
      → option_map_or (λ t. option_map_or Right (recursive_arguments D.datatypes t) false) o false ≡ true → Matched D x place cases
  matched None at e = cc e
  matched (Some t) at e = of_type t at e

module _ (D : Declared) (x : Function) (kept : IsKept D) (meant : IsFunctionMeant D x) (fine : function_fault D x ≡ None) where
  widens : Widens (theory [] D) (theory [] (with_function D x))
  widens = record { more_datatypes = []; more_functions = x ∷ []; datatypes = sym (append-nil D.datatypes); functions = refl }

  value_name : is_taken x.name (names_of_values D) ≡ false
  value_name = (no_fault_if _ _ _ fine).0

  shaped : is_body_shaped D x x.body ≡ true
  shaped = not_false _ (no_fault_if _ _ _ (no_fault_if _ _ _ fine).1).0

  no_call : HaveNoCall (bodies x.body)
  no_call =
      let named = no_fault_if (is_taken x.name (names_of_values D)) (faults.name x.name) _ fine in
      let formed = no_fault_if (not (is_body_shaped D x x.body)) faults.shape _ named.1 in
      no_calls (bodies x.body) (no_fault_if (list_any has_call (bodies x.body)) faults.program None formed.1).0

  names_differ : AreDistinct (names_of_values (with_function D x))
  names_differ =
      let con = constructor_names D.datatypes in
      let fun = map (λ (y : Function). y.name) D.functions in
      let rest = name_of_program D.program in
      let old : AreDistinct ((con ++ fun) ++ rest) = subst AreDistinct (sym (append_assoc con fun rest)) kept.names_differ in
      let free : is_taken x.name ((con ++ fun) ++ rest) ≡ false = ap (is_taken x.name) (append_assoc con fun rest) ∙ value_name in
      subst AreDistinct (
      ap (λ l. l ++ rest) (append_assoc con fun (x.name ∷ [])) ∙ append_assoc con (fun ++ x.name ∷ []) rest
      ∙ ap (λ l. con ++ (l ++ rest)) (sym (map-append (λ (y : Function). y.name) D.functions (x ∷ [])))
      ) (put_one x.name (con ++ fun) rest old free)

  count : length (D.functions ++ x ∷ []) ≡ suc (length D.functions)
  count = let e = length-append D.functions (x ∷ []) in omega (arith, e)

  new_types : AreBefore (theory [] (with_function D x)) (suc (length D.datatypes)) x.parameters (tys (x.answer ∷ x.arguments))
  new_types =
      all_before_widened (theory [] D) (theory [] (with_function D x)) widens (suc (length D.datatypes)) (suc (length D.datatypes)) x.parameters (omega arith)
      (tys (x.answer ∷ x.arguments)) meant.types

  new_body : (b : Body) → is_body_shaped D x b ≡ true → IsBodyTyped D x b → IsBody (theory [] (with_function D x)) (suc (length D.functions)) x b
      × UsesItself (theory [] (with_function D x)) (suc (length D.functions)) x b
  new_body (plain t) e typed = (
    (
      every_call (IsDeclared (theory [] D) x.arguments) (λ f ts. f < suc (length D.functions)) (λ f ts h. omega (arith, h.1)) t
          (calls_declared (theory [] D) x.arguments t typed.0 [] typed.1),
      typed_widened (theory [] D) (theory [] (with_function D x)) widens x.arguments t x.answer (λ p. refl) typed,
    ),
    tt,
  )
  new_body (recursive place cases) e typed =
      let wide = theory [] (with_function D x) in
      let m = matched D x place cases meant.types.1 (numbered x.arguments place) refl e in
      let args = constructor_arguments (theory [] D) m.datatype m.instance_at in
      let many = as_many (suc (length D.functions)) place (length (others x.arguments place)) cases m.flags args m.same m.shaped in
      let used : UseThemselves wide (suc (length D.functions)) x place cases args = typed m.datatype m.instance_at m.at m.is many in
      let fit : AreCases wide (suc (length D.functions)) x place cases args =
      subst (λ n. AreCases wide n x place cases args) count
      (cases_fit wide x place cases m.flags args m.same
      (ap (λ n. are_cases_shaped n place (length (others x.arguments place)) cases m.flags) count ∙ m.shaped)
      (subst (λ n. UseThemselves wide n x place cases args) (sym count) used)) in
      let same : args ≡ constructor_arguments wide m.datatype m.instance_at = sym (same_arguments (theory [] D) wide widens m.datatype m.instance_at m.is) in (
        (
          m.datatype,
          m.instance_at,
          m.at,
          same_datatype (theory [] D) wide widens m.datatype m.instance_at m.is,
          subst (λ l. AreCases wide (suc (length D.functions)) x place cases l) same fit,
        ),
        (m.datatype, m.instance_at, m.at, subst (λ l. UseThemselves wide (suc (length D.functions)) x place cases l) same used),
      )

  new_function : IsFunctionOf (theory [] (with_function D x)) (suc (length D.functions)) x
  new_function =
      let b = new_body x.body shaped meant.body in
      (b.0, record { types = new_types; no_call = no_call; own_type = b.1 })

  each_function : (n : ℕ) (y : Function) → numbered (D.functions ++ x ∷ []) n ≡ Some y → IsFunctionOf (theory [] (with_function D x)) n y
  each_function zero y e = cc e
  each_function (suc k) y e = elim (cases_last D.functions x y k e) [
    | inl p ↦ function_along (theory [] D) (theory [] (with_function D x)) widens (suc k) y (kept.functions (suc k) y p)
    | inr p ↦ subst (λ m. IsFunctionOf (theory [] (with_function D x)) (suc m) y) (sym p.0)
        (subst (λ z. IsFunctionOf (theory [] (with_function D x)) (suc (length D.functions)) z) p.1 new_function)
  ]

  pub kept_with_function : IsKept (with_function D x)
  kept_with_function = record {
    types_differ = kept.types_differ;
    names_differ = names_differ;
    datatypes = λ d y e. datatype_along (theory [] D) (theory [] (with_function D x)) widens d y e (kept.datatypes d y e);
    functions = each_function;
    program = λ p e. program_along (theory [] D) (theory [] (with_function D x)) widens p (kept.program p e);
    specification = λ t e. specification_along (theory [] D) (theory [] (with_function D x)) widens D.program t refl (kept.specification t e);
  }

-- A program and a specification without a fault keep what is said of all that is declared; and with both the theory is accepted.
use Rattle.std.proofs.Common.{ℕ, zero, suc, ◌≡◌, ◌<◌, ◌≤◌, true, false, not, ◌||◌, nat_eq, List, [], ◌∷◌, ◌++◌, map, length, Option, Some, None, is_some, refl, sym, ◌∙◌, ap, subst, arith, append_assoc, if◌then◌else◌, ◌+◌, ◌&&◌}
use Rattle.std.specs.Option.{option_map_or}
use Rattle.std.specs.List.{list_any}
use Rattle.std.specs.Prelude.{slice_get, unwrap_or, nat_lt}
use Rattle.std.proofs.lemmas.Bool.{ltb-true}
use Rattle.std.proofs.lemmas.List.{append-nil}
use Rattle.tg_model.specs.Tree as tree
use Rattle.tg_model.specs.Tree.{Tree, Trees, Arms, bound, free, literal, truth, con, call, put, choice, case, bind, op, trees, elements}
use Rattle.tg_model.specs.Types as types
use Rattle.tg_model.specs.Types.{Ty, Tys, nat, bool, parameter, meta, applied, tys}
use Rattle.tg_model.specs.Theory.{Theory, Datatype, Function, Program, numbered, IsClosed, AreClosed}
use Rattle.tg_model.specs.TermTyping.{IsTyped}
use Rattle.tg_model.specs.WellTyped.{IsBefore, AreBefore}
use Rattle.tg_model.specs.Calls.{EachPut, EachPuts, EachPutOf}
use Rattle.tg_model.specs.Accepted.{AreDistinct, constructor_names, variables_from, IsAccepted}
use Rattle.tg_model.proofs.Booleans.{and_left, and_right, or_left_false, or_right_false}
use Rattle.tg_accept.specs.Declared.{Declared, theory, no_program, with_program, with_specification}
use Rattle.tg_accept.specs.Laws.{Widens}
use Rattle.tg_accept.specs.Kept.{names_of_values, name_of_program, IsProgram, IsSpecified, IsKept}
use Rattle.tg_accept.specs.Faults as faults
use Rattle.tg_accept.specs.Faults.{Fault, is_taken, has_parameter, any_has_parameter, from_one_to_eight, program_fault, are_variables, are_inputs, each_put, each_puts, each_put_of, specification_fault}
use Rattle.tg_accept.specs.Meant.{IsProgramMeant, IsSpecificationMeant}
use Rattle.tg_accept.proofs.Names.{put_one}
use Rattle.tg_accept.proofs.NoFaults.{no_fault_if, not_false}
use Rattle.tg_accept.proofs.KeepDatatypes.{same_number}
use Rattle.tg_accept.proofs.KeptTypes.{closed_widened, all_closed_widened}
use Rattle.tg_accept.proofs.KeptAlong.{datatype_along, function_along, program_along, specification_along}

-- ---- the program

module _ (th : Theory) (n params : ℕ) where
  mutual
    closed : (t : Ty) → IsBefore th n params t → has_parameter t ≡ false → IsClosed th t
    closed nat h e = tt
    closed bool h e = tt
    closed (parameter k) h e = cc e
    closed (meta k) h e = absurd h
    closed (applied d ts) ((low, is), rest) e = (is, all_closed ts rest e)

    all_closed : (ts : Tys) → AreBefore th n params ts → any_has_parameter ts ≡ false → AreClosed th ts
    all_closed types.none h e = tt
    all_closed (types.more t ts) h e =
        (closed t h.0 (or_left_false (has_parameter t) (any_has_parameter ts) e), all_closed ts h.1 (or_right_false (has_parameter t) (any_has_parameter ts) e))

any_parameter : (ts : List Ty) → list_any has_parameter ts ≡ false → any_has_parameter (tys ts) ≡ false
any_parameter [] e = refl
any_parameter (t ∷ ts) e =
    ap (λ b. b || any_has_parameter (tys ts)) (or_left_false (has_parameter t) (list_any has_parameter ts) e)
    ∙ any_parameter ts (or_right_false (has_parameter t) (list_any has_parameter ts) e)

one_to_eight : (n : ℕ) → from_one_to_eight n ≡ true → (0 < n) × (n ≤ 8)
one_to_eight n e =
    let low = ltb-true 0 n (and_left (nat_lt 0 n) (nat_lt n 9) e) in
    let high = ltb-true n 9 (and_right (nat_lt 0 n) (nat_lt n 9) e) in
    (low, omega (arith, high))

none_set : {A : Type 0} (o : Option A) → is_some o ≡ false → o ≡ None
none_set None e = refl
none_set (Some x) e = cc e

module _ (D : Declared) (p : Program) (kept : IsKept D) (meant : IsProgramMeant D p) (fine : program_fault D p ≡ None) where
  widens : Widens (theory [] D) (theory [] (with_program D p))
  widens = record { more_datatypes = []; more_functions = []; datatypes = sym (append-nil D.datatypes); functions = sym (append-nil D.functions) }

  value_name : is_taken p.name (names_of_values D) ≡ false
  value_name = (no_fault_if _ _ _ fine).0

  right : ((is_some D.program || not (from_one_to_eight (length p.inputs))) || list_any has_parameter (p.answer ∷ p.inputs)) ≡ false
  right =
      let named = no_fault_if (is_taken p.name (names_of_values D)) (faults.name p.name) _ fine in
      (no_fault_if ((is_some D.program || not (from_one_to_eight (length p.inputs))) || list_any has_parameter (p.answer ∷ p.inputs)) faults.program None named.1).0

  unset : D.program ≡ None
  unset = none_set D.program (or_left_false (is_some D.program) (not (from_one_to_eight (length p.inputs))) (or_left_false _ _ right))

  few : from_one_to_eight (length p.inputs) ≡ true
  few = not_false _ (or_right_false (is_some D.program) (not (from_one_to_eight (length p.inputs))) (or_left_false _ _ right))

  no_parameter : list_any has_parameter (p.answer ∷ p.inputs) ≡ false
  no_parameter = or_right_false _ _ right

  names_differ : AreDistinct (names_of_values (with_program D p))
  names_differ =
      let con = constructor_names D.datatypes in
      let fun = map (λ (y : Function). y.name) D.functions in
      let same : names_of_values D ≡ (con ++ fun) ++ [] = ap (λ o. con ++ (fun ++ name_of_program o)) unset ∙ sym (append_assoc con fun []) in
      let old : AreDistinct ((con ++ fun) ++ []) = subst AreDistinct same kept.names_differ in
      let free : is_taken p.name ((con ++ fun) ++ []) ≡ false = ap (is_taken p.name) (sym same) ∙ value_name in
      subst AreDistinct (append-nil ((con ++ fun) ++ p.name ∷ []) ∙ append_assoc con fun (p.name ∷ [])) (put_one p.name (con ++ fun) [] old free)

  new_program : IsProgram (theory [] (with_program D p)) p
  new_program =
      let wide = theory [] (with_program D p) in
      let closed_here = all_closed (theory [] D) (suc (length D.datatypes)) meant.params (tys (p.answer ∷ p.inputs)) meant.types
      (any_parameter (p.answer ∷ p.inputs) no_parameter) in
      record {
        inputs = all_closed_widened (theory [] D) wide widens (tys p.inputs) closed_here.1;
        answer = closed_widened (theory [] D) wide widens p.answer closed_here.0;
        some_input = (one_to_eight (length p.inputs) few).0;
        few_inputs = (one_to_eight (length p.inputs) few).1;
      }

  unspecified : (t : Tree) → D.specification ≡ Some t → IsSpecified (theory [] (with_program D p)) (Some p) t
  unspecified t e = absurd (subst (λ o. IsSpecified (theory [] D) o t) unset (kept.specification t e))

  pub kept_with_program : IsKept (with_program D p)
  kept_with_program = record {
    types_differ = kept.types_differ;
    names_differ = names_differ;
    datatypes = λ d y e. datatype_along (theory [] D) (theory [] (with_program D p)) widens d y e (kept.datatypes d y e);
    functions = λ n y e. function_along (theory [] D) (theory [] (with_program D p)) widens n y (kept.functions n y e);
    program = λ q e. subst (IsProgram (theory [] (with_program D p))) (let s : p ≡ q = cc e in s) new_program;
    specification = unspecified;
  }

-- ---- the specification

variables : (n : ℕ) (ts : Trees) → are_variables n ts ≡ true → ts ≡ trees (variables_from n (length (elements ts)))
variables n tree.none e = refl
variables n (tree.more (free m) ts) e =
    let q = same_number m n (and_left (nat_eq m n) (are_variables (n + 1) ts) e) in
    let rest = variables (n + 1) ts (and_right (nat_eq m n) (are_variables (n + 1) ts) e) in
    let next : n + 1 ≡ suc n = omega arith in
    (λ i. tree.more (free (q i)) (rest i)) ∙ ap (λ k. tree.more (free n) (trees (variables_from k (length (elements ts))))) next
variables n (tree.more t ts) e = cc e

inputs_alone : (count : ℕ) (ts : Trees) → are_inputs count ts ≡ true → ts ≡ trees (variables_from 1 count)
inputs_alone count ts e =
    variables 1 ts (and_right (nat_eq (length (elements ts)) count) (are_variables 1 ts) e)
    ∙ ap (λ n. trees (variables_from 1 n)) (same_number (length (elements ts)) count (and_left (nat_eq (length (elements ts)) count) (are_variables 1 ts) e))

no_puts : (P : Trees → Type 0) (n count : ℕ) → EachPuts P (trees (variables_from n count))
no_puts P n zero = tt
no_puts P n (suc count) = (tt, no_puts P (suc n) count)

module _ (count : ℕ) where
  abbrev Inputs : Trees → Type 0
  Inputs ts = ts ≡ trees (variables_from 1 count)

  mutual
    puts : (t : Tree) → each_put count t ≡ true → EachPut Inputs t
    puts (bound k) e = tt
    puts (free n) e = tt
    puts (literal n) e = tt
    puts (truth b) e = tt
    puts (con c ts) e = all_put ts e
    puts (call f ts) e = all_put ts e
    puts (put ts) e =
        let q = inputs_alone count ts e in (q, subst (λ l. EachPuts Inputs l) (sym q) (no_puts Inputs 1 count))
    puts (choice ts) e = all_put ts e
    puts (op o ts) e = all_put ts e
    puts (bind t body) e = (puts t (and_left (each_put count t) (each_put count body) e), puts body (and_right (each_put count t) (each_put count body) e))
    puts (case n t arms) e = (puts t (and_left (each_put count t) (each_put_of count arms) e), arms_put arms (and_right (each_put count t) (each_put_of count arms) e))

    all_put : (ts : Trees) → each_puts count ts ≡ true → EachPuts Inputs ts
    all_put tree.none e = tt
    all_put (tree.more t ts) e = (puts t (and_left (each_put count t) (each_puts count ts) e), all_put ts (and_right (each_put count t) (each_puts count ts) e))

    arms_put : (arms : Arms) → each_put_of count arms ≡ true → EachPutOf Inputs arms
    arms_put tree.end e = tt
    arms_put (tree.arm n body arms) e =
        (puts body (and_left (each_put count body) (each_put_of count arms) e), arms_put arms (and_right (each_put count body) (each_put_of count arms) e))

module _ (D : Declared) (t : Tree) (kept : IsKept D) (meant : IsSpecificationMeant (theory [] D) D.program t) (fine : specification_fault D t ≡ None) where
  again : Widens (theory [] D) (theory [] (with_specification D t))
  again = record { more_datatypes = []; more_functions = []; datatypes = sym (append-nil D.datatypes); functions = sym (append-nil D.functions) }

  new_specification : (o : Option Program) → IsSpecificationMeant (theory [] D) o t
      → option_map_or (λ (p : Program). if is_some D.specification || not (each_put (length p.inputs) t) then Some faults.program else None) o (Some faults.program) ≡ None
      → IsSpecified (theory [] D) o t
  new_specification None m e = cc e
  new_specification (Some p) m e =
      let right = (no_fault_if (is_some D.specification || not (each_put (length p.inputs) t)) faults.program None e).0 in
      record { typed = m; calls = puts (length p.inputs) t (not_false _ (or_right_false (is_some D.specification) _ right)) }

  pub kept_with_specification : IsKept (with_specification D t)
  kept_with_specification = record {
    types_differ = kept.types_differ;
    names_differ = kept.names_differ;
    datatypes = λ d y e. datatype_along (theory [] D) (theory [] (with_specification D t)) again d y e (kept.datatypes d y e);
    functions = λ n y e. function_along (theory [] D) (theory [] (with_specification D t)) again n y (kept.functions n y e);
    program = λ p e. program_along (theory [] D) (theory [] (with_specification D t)) again p (kept.program p e);
    specification = λ u e. specification_along (theory [] D) (theory [] (with_specification D t)) again D.program u refl
        (subst (λ v. IsSpecified (theory [] D) D.program v) (let s : t ≡ u = cc e in s) (new_specification D.program meant fine));
  }

-- ---- the whole theory

module _ (name : List ℕ) (D : Declared) (p : Program) (t : Tree) (kept : IsKept D) (has_program : D.program ≡ Some p) (has_specification : D.specification ≡ Some t) where
  named : Widens (theory [] D) (theory name D)
  named = record { more_datatypes = []; more_functions = []; datatypes = sym (append-nil D.datatypes); functions = sym (append-nil D.functions) }

  pub whole_theory : IsAccepted (theory name D)
  whole_theory =
      let th = theory [] D in
      let whole = theory name D in
      let program = program_along th whole named p (kept.program p has_program) in
      let specification = subst (λ o. IsSpecified whole o t) has_program (specification_along th whole named D.program t refl (kept.specification t has_specification)) in
      let same_program : p ≡ whole.program = ap (λ o. unwrap_or o no_program) (sym has_program) in
      let same_specification : t ≡ whole.specification = ap (λ o. unwrap_or o (truth true)) (sym has_specification) in
      let functions = λ (n : ℕ) (y : Function) (e : numbered D.functions n ≡ Some y). function_along th whole named n y (kept.functions n y e) in
      let datatypes = λ (d : ℕ) (y : Datatype) (e : slice_get D.datatypes d ≡ Some y). datatype_along th whole named d y e (kept.datatypes d y e) in
      let right = subst (λ q. IsProgram whole q) same_program program in
      record {
        well_typed = record {
          datatypes = λ d y e. (datatypes d y e).0;
          functions = λ n y e. (functions n y e).0;
          inputs = right.inputs;
          answer = right.answer;
          specification = subst (λ q. IsTyped whole q.inputs [] whole.specification bool) same_program
              (subst (λ u. IsTyped whole p.inputs [] u bool) same_specification specification.typed);
        };
        types_differ = kept.types_differ;
        names_differ = subst (λ l. AreDistinct (constructor_names D.datatypes ++ (map (λ (y : Function). y.name) D.functions ++ l)))
            (ap name_of_program has_program ∙ ap (λ (q : Program). q.name ∷ []) same_program) kept.names_differ;
        constructors = λ d y e. (datatypes d y e).1;
        functions = λ n y e. (functions n y e).1;
        some_input = right.some_input;
        few_inputs = right.few_inputs;
        calls = subst (λ q. EachPut (λ ts. ts ≡ trees (variables_from 1 (length q.inputs))) whole.specification) same_program
            (subst (λ u. EachPut (λ ts. ts ≡ trees (variables_from 1 (length p.inputs))) u) same_specification specification.calls);
      }

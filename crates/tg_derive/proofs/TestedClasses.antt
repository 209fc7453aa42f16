-- A class follows from its test and its uniformity: the constraints compute at the tested values.
use Rattle.std.proofs.Common.{ℕ, zero, suc, ◌≡◌, ◌+◌, ◌||◌, true, false, List, [], ◌∷◌, map, Some, None, refl, ap, ◌∙◌, inl, inr}
use Rattle.std.specs.Prelude.{slice_get}
use Rattle.std.specs.Option.{option_map_or}
use Rattle.tg_model.specs.Tree as tree
use Rattle.tg_model.specs.Tree.{Tree, Trees, Arms, bound, free, literal, truth, con, call, put, choice, case, bind, op}
use Rattle.tg_model.specs.Types.{bool}
use Rattle.tg_model.specs.Value as value
use Rattle.tg_model.specs.Value.{Value, Values, number, boolean, made}
use Rattle.tg_model.specs.Formula.{Formula, atom, both, tested}
use Rattle.tg_model.specs.Theory.{Theory}
use Rattle.tg_model.specs.Typing.{AreTyped}
use Rattle.tg_model.specs.TermTyping.{AreListTyped, IsWellFormed}
use Rattle.tg_model.specs.Walk.{walk, walk_all, walk_arms, as_free, as_bound, raised, given, lifted, substituted, substituted_formula}
use Rattle.tg_model.specs.Calls.{has_call, have_call, branches_have_call}
use Rattle.tg_model.specs.Accepted.{IsAccepted}
use Rattle.tg_model.proofs.Keeping.{substitution_keeps_types}
use Rattle.tg_accept.specs.Checks.{Each}
use Rattle.tg_hyps.specs.Written.{term_of, terms_of}
use Rattle.tg_hyps.specs.Hypotheses.{Class, both_all, checked, test_of, uniformity_of, open_class_of}
use Rattle.tg_hyps.specs.Meaning.{AreTruths, IsClassOf}
use Rattle.tg_hyps.proofs.ClosedForm.{some_typed, classes_are_well_formed}
use Rattle.tg_hyps.proofs.TypedValues.{list_typed, tests_are_well_formed}
use Rattle.tg_derive.specs.Derivability.{ClassesAreDerivable}
use Rattle.tg_derive.proofs.Instances.{IsStill, of_some}
use Rattle.tg_calculus.specs.Sequent.{Hypotheses}
use Rattle.tg_calculus.specs.Computing.{computes}
use Rattle.tg_calculus.specs.Theorem.{Follows}
use Rattle.tg_calculus.proofs.DerivedRules.{assumed, conjoined, left_of, right_of, detached, unmarked, by_computing, theorem_of}

-- the terms of values have no variable, and call no program
mutual
  value_still : (v : Value) → IsStill (term_of v)
  value_still (number n) b d = refl
  value_still (boolean x) b d = refl
  value_still (made c vs) b d = ap (con c) (values_still vs b d)

  values_still : (vs : Values) (b : ℕ → ℕ → Tree) (d : ℕ) → walk_all b as_free d (terms_of vs) ≡ terms_of vs
  values_still value.none b d = refl
  values_still (value.more v vs) b d = λ i. tree.more (value_still v b d i) (values_still vs b d i)

mutual
  value_calls : (v : Value) → has_call (term_of v) ≡ false
  value_calls (number n) = refl
  value_calls (boolean x) = refl
  value_calls (made c vs) = values_call vs

  values_call : (vs : Values) → have_call (terms_of vs) ≡ false
  values_call value.none = refl
  values_call (value.more v vs) = λ i. value_calls v i || values_call vs i

pub all_values_still : (vs : List Value) → Each IsStill (map term_of vs)
all_values_still [] = tt
all_values_still (v ∷ vs) = (value_still v, all_values_still vs)

-- a walk that puts terms without program calls for variables
module _ (b f : ℕ → ℕ → Tree) (bounds : (d k : ℕ) → has_call (b d k) ≡ false) (frees : (d n : ℕ) → has_call (f d n) ≡ false) where
  mutual
    walked_calls : (t : Tree) (d : ℕ) → has_call (walk b f d t) ≡ has_call t
    walked_calls (bound k) d = bounds d k
    walked_calls (free n) d = frees d n
    walked_calls (literal n) d = refl
    walked_calls (truth x) d = refl
    walked_calls (con c ts) d = all_walked_calls ts d
    walked_calls (call g ts) d = all_walked_calls ts d
    walked_calls (put ts) d = refl
    walked_calls (choice ts) d = all_walked_calls ts d
    walked_calls (case c t arms) d = λ i. walked_calls t d i || arms_walked_calls arms d i
    walked_calls (bind t body) d = λ i. walked_calls t d i || walked_calls body (d + 1) i
    walked_calls (op o ts) d = all_walked_calls ts d

    all_walked_calls : (ts : Trees) (d : ℕ) → have_call (walk_all b f d ts) ≡ have_call ts
    all_walked_calls tree.none d = refl
    all_walked_calls (tree.more t ts) d = λ i. walked_calls t d i || all_walked_calls ts d i

    arms_walked_calls : (arms : Arms) (d : ℕ) → branches_have_call (walk_arms b f d arms) ≡ branches_have_call arms
    arms_walked_calls tree.end d = refl
    arms_walked_calls (tree.arm n body arms) d = λ i. walked_calls body (d + n) i || arms_walked_calls arms d i

given_calls : (vs : List Value) (d n : ℕ) → has_call (given (map term_of vs) d n) ≡ false
given_calls vs d zero = refl
given_calls vs d (suc k) = at vs k
  where
    at : (vs : List Value) (k : ℕ) → has_call (option_map_or (lifted d) (slice_get (map term_of vs) k) (truth false)) ≡ false
    at [] k = refl
    at (v ∷ vs) zero = ap has_call (value_still v (raised d) 0) ∙ value_calls v
    at (v ∷ vs) (suc k) = at vs k

module _ (th : Theory) (accepted : IsAccepted th) (c : Class) (is : IsClassOf th c) (vs : List Value) (typed : AreTyped th vs c.variables) (H : Hypotheses) where
  abbrev us : List Tree
  us = map term_of vs

  terms_typed : AreListTyped th [] [] us c.variables
  terms_typed = list_typed th accepted vs c.variables is.closed typed

  constraint_line : (t : Tree) → IsWellFormed th c.variables [] (atom t) → has_call t ≡ false → computes th (substituted us t) ≡ true
      → Follows th [] H (atom (substituted us t))
  constraint_line t wf calls e =
      by_computing th [] (substituted us t) tt (substitution_keeps_types th [] [] c.variables us t bool terms_typed wf)
      (walked_calls as_bound (given us) (λ d k. refl) (given_calls vs) t 0 ∙ calls) e

  member_line : (ts : List Tree) → AreTruths th c.variables ts → Each (λ t. has_call t ≡ false) ts → Each (λ t. computes th (substituted us t) ≡ true) ts
      → Follows th [] H (substituted_formula us (checked c)) → Follows th [] H (substituted_formula us (both_all ts (checked c)))
  member_line [] wf n e p = p
  member_line (t ∷ ts) wf n e p = conjoined th [] (constraint_line t wf.0 n.0 e.0) (member_line ts wf.1 n.1 e.1 p)

  both_form : (ts : List Tree) (F : Formula) → AreTruths th c.variables ts → IsWellFormed th c.variables [] F → IsWellFormed th c.variables [] (both_all ts F)
  both_form [] F h w = w
  both_form (t ∷ ts) F h w = (h.0, both_form ts F h.1 w)

  -- the class, from the test and the uniformity
  pub tested_line : Each (λ t. has_call t ≡ false) c.constraints → Each (λ t. computes th (substituted us t) ≡ true) c.constraints
      → Follows th [] H (test_of c vs) → Follows th [] H (uniformity_of c) → Follows th [] H (open_class_of c)
  tested_line n e test uniformity =
      let member = both (tested c.inputs) (both_all c.constraints (checked c)) in
      let form : IsWellFormed th c.variables [] member =
      (is.inputs, both_form c.constraints (checked c) is.constraints (some_typed th c.variables c.checks is.checks)) in
      let there : Follows th [] H (substituted_formula us member) =
      conjoined th [] (left_of th [] test) (member_line c.constraints is.constraints n e (right_of th [] test)) in
      detached th [] (unmarked th [] uniformity)
      (of_some us (all_values_still vs) th c.variables member form [] H terms_typed (classes_are_well_formed th c is).1.0 there)

pub classes_are_derivable : ClassesAreDerivable
classes_are_derivable th n c None accepted is calls e =
    let wf = (classes_are_well_formed th c is).0 in
    theorem_of th [] {H = open_class_of c ∷ []} (wf, tt) (assumed th [] tt wf (inl refl))
classes_are_derivable th n c (Some vs) accepted is calls e =
    let H : Hypotheses = test_of c vs ∷ uniformity_of c ∷ [] in
    let test = tests_are_well_formed th c vs accepted is e.0 in
    let uniformity = (classes_are_well_formed th c is).1 in
    theorem_of th [] {H = H} (test, (uniformity, tt))
    (tested_line th accepted c is vs e.0 H calls e.1 (assumed th [] tt test (inl refl)) (assumed th [] tt uniformity (inr (inl refl))))

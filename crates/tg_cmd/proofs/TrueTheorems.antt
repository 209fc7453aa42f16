-- The theorem that a report prints is true: its data satisfy the constraints on every table.
use Rattle.std.proofs.Common.{ℕ, suc, ◌≡◌, ◌≤◌, ◌∙◌, map, true, false, List, [], ◌∷◌, Option, Some, None, refl, sym, ap}
use Rattle.tg_accept.specs.Checks.{Each}
use Rattle.tg_model.proofs.Booleans.{and_left, and_right}
use Rattle.tg_model.specs.Accepted.{IsAccepted}
use Rattle.tg_model.specs.Calls.{has_call}
use Rattle.tg_model.specs.Table.{Table, IsTable}
use Rattle.tg_model.specs.Theory.{Theory, AreClosed}
use Rattle.tg_model.specs.Tree.{Tree}
use Rattle.tg_model.specs.Types.{Ty, bool, tys}
use Rattle.tg_model.specs.TermTyping.{IsTyped}
use Rattle.tg_model.specs.Typing.{AreTyped}
use Rattle.tg_model.specs.Value.{Value, boolean, wrong}
use Rattle.tg_types.specs.declared.options.Settings.{Settings}
use Rattle.tg_eval.specs.Answering.{is_true, value_part}
use Rattle.tg_eval.specs.Limited.{Outcome, limited_value}
use Rattle.tg_eval.proofs.Laws.{limited_without_calls}
use Rattle.tg_hyps.specs.Hypotheses.{Class}
use Rattle.tg_hyps.specs.Meaning.{IsTrueTerm, AllTrue, AreTruths, IsClassOf}
use Rattle.tg_solver.specs.Candidates.{holds, satisfies, first_candidate}
use Rattle.tg_solver.specs.Laws.{AreSimple}
use Rattle.tg_solver.proofs.DataFit.{data_fit}
use Rattle.tg_derive.specs.Classes.{AreClasses}
use Rattle.tg_derive.specs.Laws.{IsChosen, AreChosen}
use Rattle.tg_derive.specs.Theorem.{Choice}
use Rattle.tg_derive.proofs.ClassTypes.{classes_typed, no_call_in_constraints}
use Rattle.tg_derive.proofs.TheoremLaws.{theorem_is_true, assumptions_are_necessary}
use Rattle.tg_cmd.specs.Data.{found, choices_by_data}
use Rattle.tg_cmd.specs.Promises.{IsTrueTheorem}
use Rattle.tg_model.specs.Walk.{substituted}
use Rattle.tg_hyps.specs.Written.{term_of}
use Rattle.tg_eval.proofs.Reading.{limited_of_substituted}
use Rattle.tg_calculus.specs.Computing.{computes}
use Rattle.tg_calculus.specs.Computing.{is_true as computed}
use Rattle.tg_derive.specs.Derivability.{IsComputed, AreComputed}
use Rattle.tg_derive.proofs.TheoremEnd.{theorem_is_derivable}
use Rattle.tg_cmd.proofs.SmallData.{AreInRange, AreSimpleValues, data_simple, place_simple, leaves_are}
use Rattle.tg_cmd.proofs.SimpleVariables.{simple_variables}

abbrev NoCalls : Class → Type 0
NoCalls c = Each (λ (t : Tree). has_call t ≡ false) c.constraints

pub true_value : (o : Option Value) → is_true o ≡ true → o ≡ Some (boolean true)
true_value (Some (boolean true)) e = refl
true_value o e = cc

pub with_rest : (o : Outcome) (v : Value) → value_part o ≡ Some v → (rest : ℕ) × (o ≡ Some (v, rest))
with_rest None v e = absurd cc
with_rest (Some (w, rest)) v e = let same : w ≡ v = cc in (rest, ap (λ (x : Value). Some (x, rest)) same)

module _ (th : Theory) (accepted : IsAccepted th) where
  -- a constraint that holds by its limited value is True on every table
  held : (tb : Table) → IsTable th tb → (vars : List Ty) (vs : List Value) (t : Tree) → AreClosed th (tys vars) → AreTyped th vs vars
      → IsTyped th vars [] t bool → has_call t ≡ false → holds th vs t ≡ true → IsTrueTerm th tb vs t
  unfolding holds
  held tb table vars vs t closed typed is none e =
      let value = true_value (value_part (limited_value th wrong vs t)) e in
      let whole = with_rest (limited_value th wrong vs t) (boolean true) value in
      sym (limited_without_calls th tb accepted table wrong vars vs t bool closed typed is none 500 10000 whole.0 (boolean true) whole.1)

  all_held : (tb : Table) → IsTable th tb → (vars : List Ty) (vs : List Value) (ts : List Tree) → AreClosed th (tys vars) → AreTyped th vs vars
      → AreTruths th vars ts → Each (λ (t : Tree). has_call t ≡ false) ts → satisfies th ts vs ≡ true → AllTrue th tb vs ts
  all_held tb table vars vs [] closed typed is none e = tt
  all_held tb table vars vs (t ∷ ts) closed typed is none e = (
    held tb table vars vs t closed typed is.0 none.0 (and_left (holds th vs t) (satisfies th ts vs) e),
    all_held tb table vars vs ts closed typed is.1 none.1 (and_right (holds th vs t) (satisfies th ts vs) e),
  )

  chosen : (s : Settings) (n : ℕ) (c : Class) → IsClassOf th c → NoCalls c → AreSimple c.variables → (x : Choice)
      → first_candidate th c.variables c.constraints s n ≡ x → IsChosen th c x
  chosen s n c is none simple None e = tt
  chosen s n c is none simple (Some vs) e =
      let fit = data_fit th c.variables c.constraints s n vs e in
      let typed = fit.1 simple in
      (typed, λ tb table. all_held tb table c.variables vs c.constraints is.closed typed is.constraints none fit.0)

  all_chosen : (s : Settings) (n : ℕ) (cs : List Class) → Each (IsClassOf th) cs → Each NoCalls cs → Each (λ (c : Class). AreSimple c.variables) cs
      → AreChosen th cs (found th s n cs)
  all_chosen s n [] is none simple = tt
  all_chosen s n (c ∷ cs) is none simple =
      (chosen s n c is.0 none.0 simple.0 _ refl, all_chosen s (suc n) cs is.1 none.1 simple.1)

  pub choices_chosen : (s : Settings) (k : ℕ) (cs : List Class) → AreClasses th k cs → AreChosen th cs (choices_by_data th s cs)
  choices_chosen s k cs h = all_chosen s 1 cs (classes_typed th k cs accepted h) (no_call_in_constraints th k cs h) (simple_variables th k cs h)

  -- a constraint that holds computes to True with the datum put in
  computes_there : (vs : List Value) → AreSimpleValues vs → (t : Tree) → holds th vs t ≡ true → computes th (substituted (map term_of vs) t) ≡ true
  unfolding holds
  computes_there vs simple t e =
      let value = true_value (value_part (limited_value th wrong vs t)) e in
      let whole = with_rest (limited_value th wrong vs t) (boolean true) value in
      let put_in = sym (limited_of_substituted th wrong 500 10000 vs [] [] t (λ m used. place_simple vs simple m)) ∙ whole.1 in
      ap computed (ap (λ ts. limited_value th wrong [] (substituted ts t)) (sym (leaves_are vs simple)) ∙ put_in)

  all_compute : (vs : List Value) → AreSimpleValues vs → (ts : List Tree) → satisfies th ts vs ≡ true
      → Each (λ t. computes th (substituted (map term_of vs) t) ≡ true) ts
  all_compute vs simple [] e = tt
  all_compute vs simple (t ∷ ts) e = (
    computes_there vs simple t (and_left (holds th vs t) (satisfies th ts vs) e),
    all_compute vs simple ts (and_right (holds th vs t) (satisfies th ts vs) e),
  )

  class_computed : (s : Settings) → AreInRange s → (n : ℕ) (c : Class) → AreSimple c.variables → (x : Choice)
      → first_candidate th c.variables c.constraints s n ≡ x → IsComputed th c x
  class_computed s range n c simple None e = tt
  class_computed s range n c simple (Some vs) e =
      let fit = data_fit th c.variables c.constraints s n vs e in
      (fit.1 simple, all_compute vs (data_simple th c.variables c.constraints s n vs range e) c.constraints fit.0)

  all_computed : (s : Settings) → AreInRange s → (n : ℕ) (cs : List Class) → Each (λ (c : Class). AreSimple c.variables) cs → AreComputed th cs (found th s n cs)
  all_computed s range n [] simple = tt
  all_computed s range n (c ∷ cs) simple = (class_computed s range n c simple.0 _ refl, all_computed s range (suc n) cs simple.1)

  pub choices_computed : (s : Settings) → AreInRange s → (k : ℕ) (cs : List Class) → AreClasses th k cs → AreComputed th cs (choices_by_data th s cs)
  choices_computed s range k cs h = all_computed s range 1 cs (simple_variables th k cs h)

  pub true_theorem : (s : Settings) (k : ℕ) (cs : List Class) → AreInRange s → 1 ≤ k → AreClasses th k cs → IsTrueTheorem th k cs (choices_by_data th s cs)
  true_theorem s k cs range low h = record {
    theorem = λ tb table. theorem_is_true th k cs (choices_by_data th s cs) accepted h (choices_chosen s k cs h) tb table;
    necessary = λ tb table holds. assumptions_are_necessary th k cs (choices_by_data th s cs) accepted h tb table holds;
    derivable = theorem_is_derivable th k cs (choices_by_data th s cs) accepted low h (choices_computed s range k cs h);
  }

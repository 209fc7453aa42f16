-- What a judged run has shown.
use Rattle.std.proofs.Common.{◌≤◌, ℕ, suc, ◌≡◌, inl, inr, Bool, true, false, List, [], ◌∷◌, ◌++◌, length, Option, Some, None, refl, sym, ap, ◌∙◌, subst, append_assoc}
use Rattle.tg_accept.specs.Checks.{Each}
use Rattle.tg_derive.specs.Classes.{AreClasses}
use Rattle.tg_derive.specs.Laws.{IsChosen, AreChosen}
use Rattle.tg_derive.specs.Theorem.{Choice, Hypothesis, of_class, of_classes, of_regularity, hypotheses_of, formulas, assumptions, assumptions_of, assumed}
use Rattle.tg_derive.proofs.BothWays.{classes_cover}
use Rattle.tg_derive.proofs.ClassInputs.{calls_are_at_inputs}
use Rattle.tg_derive.proofs.ClassTypes.{classes_typed}
use Rattle.tg_derive.proofs.EachLaws.{among_itself}
use Rattle.tg_derive.proofs.TheoremLaws.{theorem_is_true, assumptions_are_necessary}
use Rattle.tg_eval.specs.Answering.{value_part}
use Rattle.tg_eval.specs.Limited.{Outcome, limited_value}
use Rattle.tg_eval.proofs.Laws.{limited_is_value}
use Rattle.tg_hyps.specs.Hypotheses.{Class, some_of, test_of, regularity_of}
use Rattle.tg_hyps.specs.Meaning.{IsTrueTerm, SomeTrue, inputs_at, IsMember, IsTrueAt, IsClassOf}
use Rattle.tg_hyps.proofs.ClassTruth.{test_is_of_values, conclusion_is_specification, value_of_truth, from_checked, to_checked}
use Rattle.tg_hyps.proofs.ClosedForm.{some_typed}
use Rattle.tg_model.proofs.Recorded.{inputs_are_typed}
use Rattle.tg_model.specs.Accepted.{IsAccepted, IsAmong}
use Rattle.tg_model.specs.Calls.{EachPut, EachPuts, EachPutOf}
use Rattle.tg_model.specs.Denotation.{World, den, world, value_in, values_in}
use Rattle.tg_model.specs.Made.{IsMade, AreMade}
use Rattle.tg_model.specs.Filling.{fill}
use Rattle.tg_model.specs.Formula.{Formula}
use Rattle.tg_model.specs.Table.{Table, IsTable, IsListed, Lists}
use Rattle.tg_model.specs.Theory.{Theory}
use Rattle.tg_model.specs.Tree as tree
use Rattle.tg_model.specs.Tree.{Tree, Trees, Arms, free, truth, con}
use Rattle.tg_model.specs.Truth.{Holds, AllHold, SatisfiesSpecification}
use Rattle.tg_model.specs.Types.{Ty, bool}
use Rattle.tg_model.specs.Typing.{AreTyped}
use Rattle.tg_model.specs.Value.{Value, boolean, made, values}
use Rattle.tg_rows.specs.Laws.{HaveValues}
use Rattle.tg_types.specs.declared.options.Settings.{Settings}
use Rattle.tg_types.specs.declared.verdicts.Verdict.{Verdict}
use Rattle.tg_types.specs.declared.verdicts.Verdict.TheVariants.{Passed, Failed, Undecided, Raised, Missing, NoDatum}
use Rattle.tg_verdict.specs.Verdicts.{verdict_by, verdict_at}
use Rattle.tg_cmd.specs.Data.{choices_by_data}
use Rattle.tg_derive.specs.Derivability.{IsComputed, AreComputed}
use Rattle.tg_derive.proofs.TheoremEnd.{theorem_is_derivable}
use Rattle.tg_cmd.proofs.SmallData.{AreInRange}
use Rattle.tg_cmd.specs.Judging.{recorded, verdict_on_answer, verdict_of, verdicts_from, tested_if_passed, choices_by_verdicts, HasAnswer, HasOutcome}
use Rattle.tg_harness.specs.Tests.{Record}
use Rattle.tg_cmd.specs.Promises.{HasPassed, IsRefuted, EachIsRefuted, IsHeadline}
use Rattle.tg_cmd.proofs.SimpleVariables.{IsFilledClass, filled_classes}
use Rattle.tg_cmd.proofs.TrueTheorems.{choices_chosen, choices_computed}
use Rattle.tg_cmd.proofs.VerdictLaws.{HaveLengths}

listed : (tb : Table) (vs : List Value) (a : Value) → Lists tb vs a → IsListed tb vs
listed [] vs a h = h
listed (e ∷ tb) vs a (inl h) = inl h.0
listed (e ∷ tb) vs a (inr h) = inr (listed tb vs a h)

-- a choice by a verdict is a choice
module _ (th : Theory) where
  still_chosen : (c : Class) (x : Choice) (v : Verdict) → IsChosen th c x → IsChosen th c (tested_if_passed v x)
  still_chosen c x Passed h = h
  still_chosen c x Failed h = tt
  still_chosen c x Undecided h = tt
  still_chosen c x Raised h = tt
  still_chosen c x Missing h = tt
  still_chosen c x NoDatum h = tt

  all_still_chosen : (n : ℕ) (cs : List Class) (xs : List Choice) (rs : List Record) → AreChosen th cs xs
      → AreChosen th cs (choices_by_verdicts xs (verdicts_from th n cs xs rs))
  all_still_chosen n [] [] rs h = tt
  all_still_chosen n [] (x ∷ xs) rs h = absurd h
  all_still_chosen n (c ∷ cs) [] rs h = absurd h
  all_still_chosen n (c ∷ cs) (x ∷ xs) rs h =
      (still_chosen c x (verdict_of th c x (recorded rs n)) h.0, all_still_chosen (suc n) cs xs rs h.1)

still_computed : (th : Theory) (c : Class) (x : Choice) (v : Verdict) → IsComputed th c x → IsComputed th c (tested_if_passed v x)
still_computed th c x Passed h = h
still_computed th c x Failed h = tt
still_computed th c x Undecided h = tt
still_computed th c x Raised h = tt
still_computed th c x Missing h = tt
still_computed th c x NoDatum h = tt

all_still_computed : (th : Theory) (n : ℕ) (cs : List Class) (xs : List Choice) (rs : List Record) → AreComputed th cs xs
    → AreComputed th cs (choices_by_verdicts xs (verdicts_from th n cs xs rs))
all_still_computed th n [] [] rs h = tt
all_still_computed th n [] (x ∷ xs) rs h = absurd h
all_still_computed th n (c ∷ cs) [] rs h = absurd h
all_still_computed th n (c ∷ cs) (x ∷ xs) rs h =
    (still_computed th c x (verdict_of th c x (recorded rs n)) h.0, all_still_computed th (suc n) cs xs rs h.1)

-- ---- the value of the checks

passed_value : (o : Option Value) → verdict_by o ≡ Passed → o ≡ Some (boolean true)
passed_value (Some (boolean true)) e = refl
passed_value o e = cc

failed_value : (o : Option Value) → verdict_by o ≡ Failed → (v : Value) × (o ≡ Some v) × (v ≡ boolean true → ⊥)
failed_value None e = absurd cc
failed_value (Some v) e = (v, refl, λ f. let wrong : Passed ≡ Failed = sym (ap (λ w. verdict_by (Some w)) f) ∙ e in absurd cc)

with_rest : (o : Outcome) (v : Value) → value_part o ≡ Some v → (rest : ℕ) × (o ≡ Some (v, rest))
with_rest None v e = absurd cc
with_rest (Some (w, rest)) v e = let same : w ≡ v = cc in (rest, ap (λ (x : Value). Some (x, rest)) same)

-- a term of constructors, variables and truth values has one value within any binders
module _ (w : World) (env loc : List Value) where
  mutual
    one_value : (t : Tree) → IsMade t → value_in w env loc t ≡ value_in w env [] t
    one_value (free n) m = refl
    one_value (truth b) m = refl
    one_value (con c ts) m = ap (λ vs. made c (values vs)) (one_values ts m)
    one_value t m = absurd m

    one_values : (ts : Trees) → AreMade ts → values_in w env loc ts ≡ values_in w env [] ts
    one_values tree.none m = refl
    one_values (tree.more t ts) m = λ i. one_value t m.0 i ∷ one_values ts m.1 i

-- what calls keep to, they keep to if it asks less
module _ (P Q : Trees → Type 0) (f : (ts : Trees) → P ts → Q ts) where
  mutual
    puts_weaker : (t : Tree) → EachPut P t → EachPut Q t
    puts_weaker (tree.bound k) h = tt
    puts_weaker (free n) h = tt
    puts_weaker (tree.literal n) h = tt
    puts_weaker (truth b) h = tt
    puts_weaker (con c ts) h = all_weaker ts h
    puts_weaker (tree.call g ts) h = all_weaker ts h
    puts_weaker (tree.put ts) h = (f ts h.0, all_weaker ts h.1)
    puts_weaker (tree.choice ts) h = all_weaker ts h
    puts_weaker (tree.case d t arms) h = (puts_weaker t h.0, arms_weaker arms h.1)
    puts_weaker (tree.bind t body) h = (puts_weaker t h.0, puts_weaker body h.1)
    puts_weaker (tree.op o ts) h = all_weaker ts h

    all_weaker : (ts : Trees) → EachPuts P ts → EachPuts Q ts
    all_weaker tree.none h = tt
    all_weaker (tree.more t ts) h = (puts_weaker t h.0, all_weaker ts h.1)

    arms_weaker : (arms : Arms) → EachPutOf P arms → EachPutOf Q arms
    arms_weaker tree.end h = tt
    arms_weaker (tree.arm n body arms) h = (puts_weaker body h.0, arms_weaker arms h.1)

-- calls of a disjunction are those of its terms
some_calls : (P : Trees → Type 0) (ts : List Tree) → Each (EachPut P) ts → EachPut P (some_of ts)
some_calls P [] h = tt
some_calls P (t ∷ []) h = h.0
some_calls P (t ∷ u ∷ us) h = (h.0, (some_calls P (u ∷ us) h.1, tt))

each_at : {A : Type 0} (P : A → Type 0) (xs : List A) (x : A) → Each P xs → IsAmong x xs → P x
each_at P [] x h k = absurd k
each_at P (y ∷ xs) x h (inl e) = subst P (sym e) h.0
each_at P (y ∷ xs) x h (inr k) = each_at P xs x h.1 k

-- ---- on a table

module _ (th : Theory) (accepted : IsAccepted th) (k : ℕ) (cs : List Class) (are : AreClasses th k cs) (tb : Table) (table : IsTable th tb) where
  -- at values at which a class's constraints are True, its checks have the limited value, where the table has the answer
  module _ (c : Class) (among : IsAmong c cs) (is : IsClassOf th c) (filled : IsFilledClass th c) (vs : List Value) (chosen : IsChosen th c (Some vs)) (a : Value)
      (lists : Lists tb (fill vs c.inputs) a) where
    abbrev inputs : List Value
    inputs = inputs_at th tb vs c

    member : IsMember th tb c vs inputs
    member = record { typed = chosen.0; is = refl; constraints = chosen.1 tb table }

    lists_inputs : Lists tb inputs a
    lists_inputs = subst (λ (ds : List Value). Lists tb ds a) (sym (filled tb vs)) lists

    checks_value : (v : Value) → value_part (limited_value th a vs (some_of c.checks)) ≡ Some v → v ≡ den th tb vs [] (some_of c.checks)
    checks_value v e =
        let whole = with_rest (limited_value th a vs (some_of c.checks)) v e in
        limited_is_value th tb accepted table inputs a lists_inputs c.variables vs (some_of c.checks) bool is.closed chosen.0
        (some_typed th c.variables c.checks is.checks)
        (puts_weaker (HaveValues th tb vs inputs) (λ ts. (loc : List Value) → values_in (world th tb) vs loc ts ≡ inputs)
        (λ ts h loc. one_values (world th tb) vs loc ts h.made ∙ h.values) (some_of c.checks)
        (some_calls (HaveValues th tb vs inputs) c.checks (calls_are_at_inputs th k cs accepted are tb table c among vs inputs member)))
        500 10000 whole.0 v whole.1

    passed_checks : verdict_at th c.checks vs a ≡ Passed → SomeTrue th tb vs c.checks
    passed_checks e =
        from_checked th tb accepted.well_typed table c.variables is.closed vs chosen.0 c.checks is.checks
        (sym (checks_value (boolean true) (passed_value (value_part (limited_value th a vs (some_of c.checks))) e)))

    passed_test : verdict_at th c.checks vs a ≡ Passed → Holds th tb [] [] (test_of c vs)
    passed_test e =
        (test_is_of_values th tb c accepted.well_typed table is vs [] chosen.0).1 (listed tb inputs a lists_inputs, passed_checks e)

    failed_specification : verdict_at th c.checks vs a ≡ Failed → den th tb (fill vs c.inputs) [] th.specification ≡ boolean false
    failed_specification e = by (value_of_truth th tb accepted.well_typed table th.program.inputs accepted.well_typed.inputs (fill vs c.inputs) typed_inputs th.specification accepted.well_typed.specification)
      where
        typed_inputs : AreTyped th (fill vs c.inputs) th.program.inputs
        typed_inputs = inputs_are_typed th tb (fill vs c.inputs) table (listed tb (fill vs c.inputs) a lists)

        never : IsTrueTerm th tb (fill vs c.inputs) th.specification → ⊥
        never holds =
            let failed = failed_value (value_part (limited_value th a vs (some_of c.checks))) e in
            let true_there = each_at (λ d. IsTrueAt th tb d inputs) cs c
            ((classes_cover th k cs accepted are tb table inputs (subst (λ (ds : List Value). AreTyped th ds th.program.inputs) (sym (filled tb vs)) typed_inputs)).true_there
            (subst (λ (ds : List Value). IsTrueTerm th tb ds th.specification) (sym (filled tb vs)) holds)) among in
            failed.2 (checks_value failed.0 failed.1
            ∙ to_checked th tb accepted.well_typed table c.variables is.closed vs chosen.0 c.checks is.checks (true_there vs member))

        by : (b : Bool) × (den th tb (fill vs c.inputs) [] th.specification ≡ boolean b) → den th tb (fill vs c.inputs) [] th.specification ≡ boolean false
        by (true, e) = absurd (never e)
        by (false, e) = e

  -- ---- the hypotheses of the theorem

  abbrev AllTrue : List Formula → Type 0
  AllTrue fs = AllHold th tb [] fs

  formulas_both : (hs is : List Hypothesis) → formulas (hs ++ is) ≡ formulas hs ++ formulas is
  formulas_both [] is = refl
  formulas_both (h ∷ hs) is = ap (λ l. h.formula ∷ l) (formulas_both hs is)

  assumptions_both : (hs is : List Hypothesis) → assumptions (hs ++ is) ≡ assumptions hs ++ assumptions is
  assumptions_both [] is = refl
  assumptions_both (h ∷ hs) is =
      ap (λ l. assumed h.label h.formula ++ l) (assumptions_both hs is) ∙ sym (append_assoc (assumed h.label h.formula) (assumptions hs) (assumptions is))

  all_left : (fs gs : List Formula) → AllTrue (fs ++ gs) → AllTrue fs
  all_left [] gs h = tt
  all_left (f ∷ fs) gs h = (h.0, all_left fs gs h.1)

  all_right : (fs gs : List Formula) → AllTrue (fs ++ gs) → AllTrue gs
  all_right [] gs h = h
  all_right (f ∷ fs) gs h = all_right fs gs h.1

  all_both : (fs gs : List Formula) → AllTrue fs → AllTrue gs → AllTrue (fs ++ gs)
  all_both [] gs h k = k
  all_both (f ∷ fs) gs h k = (h.0, all_both fs gs h.1 k)

  -- of a class: its test is true where it is judged passed
  class_hypotheses : (n : ℕ) (c : Class) (x : Choice) (o : Option Record) → IsAmong c cs → IsClassOf th c → IsFilledClass th c → IsChosen th c x
      → (verdict_of th c x o ≡ Passed → HasOutcome tb c x o) → AllTrue (assumptions (of_class n c (tested_if_passed (verdict_of th c x o) x)))
      → AllTrue (formulas (of_class n c (tested_if_passed (verdict_of th c x o) x)))
  class_hypotheses n c None o among is filled chosen has h = h
  class_hypotheses n c (Some vs) None among is filled chosen has h = h
  class_hypotheses n c (Some vs) (Some r) among is filled chosen has h = by r.answer (λ e. has e) h
    where
      by : (a : Option Value) → (verdict_on_answer th c vs a ≡ Passed → HasAnswer tb c vs a)
          → AllTrue (assumptions (of_class n c (tested_if_passed (verdict_on_answer th c vs a) (Some vs))))
          → AllTrue (formulas (of_class n c (tested_if_passed (verdict_on_answer th c vs a) (Some vs))))
      by None lists k = k
      by (Some a) lists k = at (verdict_at th c.checks vs a) refl k
        where
          at : (v : Verdict) → verdict_at th c.checks vs a ≡ v → AllTrue (assumptions (of_class n c (tested_if_passed v (Some vs))))
              → AllTrue (formulas (of_class n c (tested_if_passed v (Some vs))))
          at Passed e p = (passed_test c among is filled vs chosen a (lists e) e, p)
          at Failed e p = p
          at Undecided e p = p
          at Raised e p = p
          at Missing e p = p
          at NoDatum e p = p

  classes_hypotheses : (n : ℕ) (ds : List Class) (xs : List Choice) (rs : List Record) → Each (λ c. IsAmong c cs) ds → Each (IsClassOf th) ds → Each (IsFilledClass th) ds
      → AreChosen th ds xs → HasPassed th tb n ds xs rs
      → AllTrue (assumptions (of_classes n ds (choices_by_verdicts xs (verdicts_from th n ds xs rs))))
      → AllTrue (formulas (of_classes n ds (choices_by_verdicts xs (verdicts_from th n ds xs rs))))
  classes_hypotheses n [] [] rs among is filled chosen has h = tt
  classes_hypotheses n [] (x ∷ xs) rs among is filled chosen has h = absurd chosen
  classes_hypotheses n (c ∷ ds) [] rs among is filled chosen has h = absurd chosen
  classes_hypotheses n (c ∷ ds) (x ∷ xs) rs among is filled chosen has h =
      let first = of_class n c (tested_if_passed (verdict_of th c x (recorded rs n)) x) in
      let rest = of_classes (suc n) ds (choices_by_verdicts xs (verdicts_from th (suc n) ds xs rs)) in
      let both = subst AllTrue (assumptions_both first rest) h in
      subst AllTrue (sym (formulas_both first rest))
      (all_both (formulas first) (formulas rest)
      (class_hypotheses n c x (recorded rs n) among.0 is.0 filled.0 chosen.0 has.0 (all_left (assumptions first) (assumptions rest) both))
      (classes_hypotheses (suc n) ds xs rs among.1 is.1 filled.1 chosen.1 has.1 (all_right (assumptions first) (assumptions rest) both)))

  regularity_hypotheses : (o : Option Formula) → AllTrue (assumptions (of_regularity o)) → AllTrue (formulas (of_regularity o))
  regularity_hypotheses None h = h
  regularity_hypotheses (Some f) h = h

  all_hypotheses : (xs : List Choice) (rs : List Record) → AreChosen th cs xs → HasPassed th tb 1 cs xs rs
      → AllTrue (assumptions_of th k cs (choices_by_verdicts xs (verdicts_from th 1 cs xs rs)))
      → AllTrue (formulas (hypotheses_of th k cs (choices_by_verdicts xs (verdicts_from th 1 cs xs rs))))
  all_hypotheses xs rs chosen has h =
      let classes = of_classes 1 cs (choices_by_verdicts xs (verdicts_from th 1 cs xs rs)) in
      let regular = of_regularity (regularity_of th k) in
      let both = subst AllTrue (assumptions_both classes regular) h in
      subst AllTrue (sym (formulas_both classes regular))
      (all_both (formulas classes) (formulas regular)
      (classes_hypotheses 1 cs xs rs (among_itself (λ c. IsAmong c cs) cs (λ c m. m)) (classes_typed th k cs accepted are) (filled_classes th accepted k cs are) chosen has
      (all_left (assumptions classes) (assumptions regular) both))
      (regularity_hypotheses (regularity_of th k) (all_right (assumptions classes) (assumptions regular) both)))

  specification_holds : (xs : List Choice) (rs : List Record) → AreChosen th cs xs → HasPassed th tb 1 cs xs rs
      → AllTrue (assumptions_of th k cs (choices_by_verdicts xs (verdicts_from th 1 cs xs rs))) → SatisfiesSpecification th tb
  specification_holds xs rs chosen has h =
      (conclusion_is_specification th tb table).0
      (theorem_is_true th k cs (choices_by_verdicts xs (verdicts_from th 1 cs xs rs)) accepted are (all_still_chosen th 1 cs xs rs chosen) tb table [] tt
      (all_hypotheses xs rs chosen has h))

-- ---- what failed

module _ (th : Theory) (accepted : IsAccepted th) (k : ℕ) (cs : List Class) (are : AreClasses th k cs) where
  class_refuted : (c : Class) (x : Choice) (o : Option Record) → IsAmong c cs → IsClassOf th c → IsFilledClass th c → IsChosen th c x → IsRefuted th c x o
  class_refuted c None o among is filled chosen = tt
  class_refuted c (Some vs) None among is filled chosen = λ e tb table has. absurd cc
  class_refuted c (Some vs) (Some r) among is filled chosen = by r.answer
    where
      by : (a : Option Value) → verdict_on_answer th c vs a ≡ Failed → (tb : Table) → IsTable th tb → HasAnswer tb c vs a
          → den th tb (fill vs c.inputs) [] th.specification ≡ boolean false
      by None e tb table has = absurd cc
      by (Some a) e tb table has = failed_specification th accepted k cs are tb table c among is filled vs chosen a has e

  all_refuted : (n : ℕ) (ds : List Class) (xs : List Choice) (rs : List Record) → Each (λ c. IsAmong c cs) ds → Each (IsClassOf th) ds → Each (IsFilledClass th) ds
      → AreChosen th ds xs → EachIsRefuted th n ds xs rs
  all_refuted n [] [] rs among is filled chosen = tt
  all_refuted n [] (x ∷ xs) rs among is filled chosen = absurd chosen
  all_refuted n (c ∷ ds) [] rs among is filled chosen = absurd chosen
  all_refuted n (c ∷ ds) (x ∷ xs) rs among is filled chosen =
      (class_refuted c x (recorded rs n) among.0 is.0 filled.0 chosen.0, all_refuted (suc n) ds xs rs among.1 is.1 filled.1 chosen.1)

  pub headline : (s : Settings) (rs : List Record) → AreInRange s → 1 ≤ k → IsHeadline th k cs (choices_by_data th s cs) rs
  headline s rs range low =
      let xs = choices_by_data th s cs in
      let chosen = choices_chosen th accepted s k cs are in
      let by = choices_by_verdicts xs (verdicts_from th 1 cs xs rs) in
      record {
        true_theorem = record {
          theorem = λ tb table. theorem_is_true th k cs by accepted are (all_still_chosen th 1 cs xs rs chosen) tb table;
          necessary = λ tb table holds. assumptions_are_necessary th k cs by accepted are tb table holds;
          derivable = theorem_is_derivable th k cs by accepted low are (all_still_computed th 1 cs xs rs (choices_computed th accepted s range k cs are));
        };
        specification = λ tb table has h. specification_holds th accepted k cs are tb table xs rs chosen has h;
        refuted =
            all_refuted 1 cs xs rs (among_itself (λ c. IsAmong c cs) cs (λ c m. m)) (classes_typed th k cs accepted are) (filled_classes th accepted k cs are) chosen;
      }

-- ---- as many values as variables

typed_length : (th : Theory) (vs : List Value) (ts : List Ty) → AreTyped th vs ts → length vs ≡ length ts
typed_length th [] [] h = refl
typed_length th [] (t ∷ ts) h = absurd h
typed_length th (v ∷ vs) [] h = absurd h
typed_length th (v ∷ vs) (t ∷ ts) h = ap suc (typed_length th vs ts h.1)

lengths : (th : Theory) (cs : List Class) (xs : List Choice) → AreChosen th cs xs → HaveLengths cs xs
lengths th [] [] h = tt
lengths th [] (x ∷ xs) h = absurd h
lengths th (c ∷ cs) [] h = absurd h
lengths th (c ∷ cs) (None ∷ xs) h = (tt, lengths th cs xs h.1)
lengths th (c ∷ cs) (Some vs ∷ xs) h = (typed_length th vs c.variables h.0.0, lengths th cs xs h.1)

pub data_lengths : (th : Theory) → IsAccepted th → (s : Settings) (k : ℕ) (cs : List Class) → AreClasses th k cs → HaveLengths cs (choices_by_data th s cs)
data_lengths th accepted s k cs are = lengths th cs (choices_by_data th s cs) (choices_chosen th accepted s k cs are)

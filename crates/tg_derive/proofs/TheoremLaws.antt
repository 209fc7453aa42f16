-- The theorem is true on every table, and what no test shows follows from the specification.
use Rattle.std.proofs.Common.{ℕ, suc, ◌≡◌, ◌≤◌, ◌⊎◌, inl, inr, List, [], ◌∷◌, ◌++◌, Option, Some, None, refl, ap, sym, subst, append_assoc, ◌∙◌}
use Rattle.std.proofs.lemmas.List.{map-append}
use Rattle.tg_model.specs.Value.{Value, depth, IsShallow}
use Rattle.tg_model.specs.Formula.{Formula}
use Rattle.tg_model.specs.Theory.{Theory}
use Rattle.tg_model.specs.Typing.{AreTyped}
use Rattle.tg_model.specs.Table.{Table, IsTable, IsListed}
use Rattle.tg_model.specs.Truth.{Holds, AllHold, SatisfiesSpecification}
use Rattle.tg_model.specs.WellTyped.{IsWellTyped}
use Rattle.tg_model.specs.Accepted.{IsAccepted}
use Rattle.tg_model.proofs.Recorded.{inputs_are_typed}
use Rattle.tg_accept.specs.Checks.{Each}
use Rattle.tg_split.proofs.ShapeCoverage.{either}
use Rattle.tg_hyps.specs.Hypotheses.{Class, regularity_of, conclusion_of}
use Rattle.tg_hyps.specs.Meaning.{IsTrueTerm, inputs_at, IsTrueAt, IsTrueWhereTested, IsClassOf}
use Rattle.tg_hyps.proofs.ClassTruth.{open_class_is_of_members, uniformity_is_of_members, test_is_of_values, regularity_is_of_deep, none_is_deep, conclusion_is_specification}
use Rattle.tg_derive.specs.Classes.{AreClasses}
use Rattle.tg_derive.specs.Theorem.{Choice, Hypothesis, of_class, of_classes, of_regularity, hypotheses_of, formulas, assumed, assumptions}
use Rattle.tg_derive.specs.Laws.{IsChosen, AreChosen, TheoremIsTrue, AssumptionsAreNecessary}
use Rattle.tg_derive.proofs.EachLaws.{each_among, each_given, among_itself}
use Rattle.tg_derive.proofs.BothWays.{classes_cover}
use Rattle.tg_derive.proofs.ClassTypes.{classes_typed}

formulas_both : (hs is : List Hypothesis) → formulas (hs ++ is) ≡ formulas hs ++ formulas is
formulas_both hs is = map-append (λ (h : Hypothesis). h.formula) hs is

assumptions_both : (hs is : List Hypothesis) → assumptions (hs ++ is) ≡ assumptions hs ++ assumptions is
assumptions_both [] is = refl
assumptions_both (h ∷ hs) is =
    ap (λ l. assumed h.label h.formula ++ l) (assumptions_both hs is) ∙ sym (append_assoc (assumed h.label h.formula) (assumptions hs) (assumptions is))

shallow_or_deep : (k : ℕ) (vs : List Value) → IsShallow k vs ⊎ (¬ (IsShallow k vs))
shallow_or_deep k [] = inl tt
shallow_or_deep k (v ∷ vs) = by (either (depth v) k) (shallow_or_deep k vs)
  where
    by : (depth v ≤ k) ⊎ (¬ (depth v ≤ k)) → IsShallow k vs ⊎ (¬ (IsShallow k vs)) → IsShallow k (v ∷ vs) ⊎ (¬ (IsShallow k (v ∷ vs)))
    by (inl h) (inl s) = inl (h, s)
    by (inl h) (inr d) = inr (λ p. d p.1)
    by (inr g) s = inr (λ p. g p.0)

no_values : (th : Theory) (env : List Value) → AreTyped th env [] → env ≡ []
no_values th [] h = refl
no_values th (v ∷ vs) h = absurd h

module _ (th : Theory) (accepted : IsAccepted th) (tb : Table) (table : IsTable th tb) where
  abbrev wt : IsWellTyped th
  wt = accepted.well_typed

  abbrev AllTrue : List Formula → Type 0
  AllTrue fs = AllHold th tb [] fs

  all_left : (fs gs : List Formula) → AllTrue (fs ++ gs) → AllTrue fs
  all_left [] gs h = tt
  all_left (f ∷ fs) gs h = (h.0, all_left fs gs h.1)

  all_right : (fs gs : List Formula) → AllTrue (fs ++ gs) → AllTrue gs
  all_right [] gs h = h
  all_right (f ∷ fs) gs h = all_right fs gs h.1

  all_both : (fs gs : List Formula) → AllTrue fs → AllTrue gs → AllTrue (fs ++ gs)
  all_both [] gs h k = k
  all_both (f ∷ fs) gs h k = (h.0, all_both fs gs h.1 k)

  -- a class whose hypotheses are true is true at each tested input
  from_class : (n : ℕ) (c : Class) (x : Choice) → IsClassOf th c → IsChosen th c x → AllTrue (formulas (of_class n c x)) → IsTrueWhereTested th tb c
  from_class n c None is chosen h = (open_class_is_of_members th tb c wt table is).0 h.0
  from_class n c (Some vs) is chosen h =
      let t = (test_is_of_values th tb c wt table is vs [] chosen.0).0 h.0 in
      (uniformity_is_of_members th tb c wt table is).0 h.1.0
      (inputs_at th tb vs c, t.0, (vs, record { typed = chosen.0; is = refl; constraints = chosen.1 tb table }, t.1))

  from_classes : (n : ℕ) (cs : List Class) (xs : List Choice) → Each (IsClassOf th) cs → AreChosen th cs xs → AllTrue (formulas (of_classes n cs xs))
      → Each (IsTrueWhereTested th tb) cs
  from_classes n [] xs is chosen h = tt
  from_classes n (c ∷ cs) [] is chosen h = absurd chosen
  from_classes n (c ∷ cs) (x ∷ xs) is chosen h =
      let both = subst AllTrue (formulas_both (of_class n c x) (of_classes (suc n) cs xs)) h in (
        from_class n c x is.0 chosen.0 (all_left (formulas (of_class n c x)) (formulas (of_classes (suc n) cs xs)) both),
        from_classes (suc n) cs xs is.1 chosen.1 (all_right (formulas (of_class n c x)) (formulas (of_classes (suc n) cs xs)) both),
      )

  -- at tested inputs that are deeper
  where_deep : (k : ℕ) (o : Option Formula) → regularity_of th k ≡ o → AllTrue (formulas (of_regularity o)) → (inputs : List Value)
      → AreTyped th inputs th.program.inputs → IsListed tb inputs → ¬ (IsShallow k inputs) → IsTrueTerm th tb inputs th.specification
  where_deep k None e h inputs typed listed deep = absurd (deep (none_is_deep th k k e inputs typed))
  where_deep k (Some f) e h inputs typed listed deep = (regularity_is_of_deep th tb k f table e).0 h.0 inputs listed deep

  specification_true : (k : ℕ) (cs : List Class) (xs : List Choice) → AreClasses th k cs → AreChosen th cs xs → AllTrue (formulas (hypotheses_of th k cs xs))
      → SatisfiesSpecification th tb
  specification_true k cs xs are chosen h inputs listed =
      let both = subst AllTrue (formulas_both (of_classes 1 cs xs) (of_regularity (regularity_of th k))) h in
      let classes = from_classes 1 cs xs (classes_typed th k cs accepted are) chosen
      (all_left (formulas (of_classes 1 cs xs)) (formulas (of_regularity (regularity_of th k))) both) in
      let regular = all_right (formulas (of_classes 1 cs xs)) (formulas (of_regularity (regularity_of th k))) both in
      let typed = inputs_are_typed th tb inputs table listed in
      by classes regular typed (shallow_or_deep k inputs)
    where
      by : Each (IsTrueWhereTested th tb) cs → AllTrue (formulas (of_regularity (regularity_of th k))) → AreTyped th inputs th.program.inputs
          → IsShallow k inputs ⊎ (¬ (IsShallow k inputs)) → IsTrueTerm th tb inputs th.specification
      by classes regular typed (inl s) =
          (classes_cover th k cs accepted are tb table inputs typed).suffice s
          (each_given (IsTrueWhereTested th tb) (λ c. IsTrueAt th tb c inputs) cs (λ c f. f inputs listed) classes)
      by classes regular typed (inr d) = where_deep k (regularity_of th k) refl regular inputs typed listed d

  -- where the specification is true
  module _ (satisfied : SatisfiesSpecification th tb) where
    all_true : (k : ℕ) (cs : List Class) → AreClasses th k cs → Each (IsTrueWhereTested th tb) cs
    all_true k cs are =
        among_itself (IsTrueWhereTested th tb) cs (λ c among inputs listed.
        each_among (λ d. IsTrueAt th tb d inputs) cs c
        ((classes_cover th k cs accepted are tb table inputs (inputs_are_typed th tb inputs table listed)).true_there (satisfied inputs listed)) among)

    of_class_true : (n : ℕ) (c : Class) (x : Choice) → IsClassOf th c → IsTrueWhereTested th tb c → AllTrue (assumptions (of_class n c x))
    of_class_true n c None is h = ((open_class_is_of_members th tb c wt table is).1 h, tt)
    of_class_true n c (Some vs) is h = ((uniformity_is_of_members th tb c wt table is).1 (λ m. h), tt)

    of_classes_true : (n : ℕ) (cs : List Class) (xs : List Choice) → Each (IsClassOf th) cs → Each (IsTrueWhereTested th tb) cs
        → AllTrue (assumptions (of_classes n cs xs))
    of_classes_true n [] xs is h = tt
    of_classes_true n (c ∷ cs) [] is h = tt
    of_classes_true n (c ∷ cs) (x ∷ xs) is h =
        subst AllTrue (sym (assumptions_both (of_class n c x) (of_classes (suc n) cs xs)))
        (all_both (assumptions (of_class n c x)) (assumptions (of_classes (suc n) cs xs)) (of_class_true n c x is.0 h.0) (of_classes_true (suc n) cs xs is.1 h.1))

    of_regularity_true : (k : ℕ) (o : Option Formula) → regularity_of th k ≡ o → AllTrue (assumptions (of_regularity o))
    of_regularity_true k None e = tt
    of_regularity_true k (Some f) e = ((regularity_is_of_deep th tb k f table e).1 (λ inputs listed deep. satisfied inputs listed), tt)

pub theorem_is_true : TheoremIsTrue
theorem_is_true th k cs xs accepted are chosen tb table env typed h = by env (no_values th env typed) h
  where
    by : (env : List Value) → env ≡ [] → AllHold th tb env (formulas (hypotheses_of th k cs xs)) → Holds th tb env [] (conclusion_of th)
    by env e h = subst (λ (l : List Value). Holds th tb l [] (conclusion_of th)) (sym e)
        ((conclusion_is_specification th tb table).1
        (specification_true th accepted tb table k cs xs are chosen (subst (λ (l : List Value). AllHold th tb l (formulas (hypotheses_of th k cs xs))) e h)))

pub assumptions_are_necessary : AssumptionsAreNecessary
assumptions_are_necessary th k cs xs accepted are tb table satisfied =
    subst (AllHold th tb []) (sym (assumptions_both (of_classes 1 cs xs) (of_regularity (regularity_of th k))))
    (all_both th accepted tb table (assumptions (of_classes 1 cs xs)) (assumptions (of_regularity (regularity_of th k)))
    (of_classes_true th accepted tb table satisfied 1 cs xs (classes_typed th k cs accepted are) (all_true th accepted tb table satisfied k cs are))
    (of_regularity_true th accepted tb table satisfied k (regularity_of th k) refl))

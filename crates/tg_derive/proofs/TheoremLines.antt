-- From the hypotheses of the theorem each class follows, and at each pattern the specification.
use Rattle.std.proofs.Common.{ℕ, suc, ◌≡◌, false, List, [], ◌∷◌, Option, Some, None, refl, sym, subst, inl, inr}
use Rattle.std.proofs.lemmas.List.{map-append}
use Rattle.tg_model.specs.Formula.{Formula, atom, implies, tested}
use Rattle.tg_model.specs.Theory.{Theory}
use Rattle.tg_model.specs.Closing.{universal_closure}
use Rattle.tg_model.specs.Calls.{has_call}
use Rattle.tg_model.specs.Accepted.{IsAccepted, IsAmong}
use Rattle.tg_accept.specs.Checks.{Each}
use Rattle.tg_split.specs.Patterns.{Pattern, patterns}
use Rattle.tg_split.specs.Laws.{AllOf, IsPatternOf}
use Rattle.tg_split.proofs.TypedPatterns.{patterns_are_typed}
use Rattle.tg_hyps.specs.Hypotheses.{Class, open_class_of, regularity_of}
use Rattle.tg_hyps.specs.Meaning.{IsClassOf}
use Rattle.tg_hyps.proofs.ClosedForm.{classes_are_well_formed, regularity_is_well_formed}
use Rattle.tg_hyps.proofs.TypedValues.{tests_are_well_formed}
use Rattle.tg_derive.specs.Goals.{start}
use Rattle.tg_derive.specs.Trees.{AreClassesOf}
use Rattle.tg_derive.specs.Theorem.{Choice, Hypothesis, of_classes, of_regularity, hypotheses_of, formulas}
use Rattle.tg_derive.specs.Derivability.{AreComputed, EachPatternIsDerivable}
use Rattle.tg_derive.proofs.EachLaws.{each_left, each_right}
use Rattle.tg_derive.proofs.TreeLaws.{classes_are_of_trees}
use Rattle.tg_derive.proofs.ClassTypes.{classes_typed, no_call_in_constraints}
use Rattle.tg_derive.proofs.TestedClasses.{tested_line}
use Rattle.tg_derive.proofs.OpenClasses.{closed_pattern_line}
use Rattle.tg_calculus.specs.Sequent as sequent
use Rattle.tg_calculus.specs.Sequent.{Hypotheses}
use Rattle.tg_calculus.specs.Step.{IsFormula}
use Rattle.tg_calculus.specs.Theorem.{Follows, IsTheorem}
use Rattle.tg_calculus.proofs.Hypotheses.{each_append, first_each}
use Rattle.tg_calculus.proofs.SetLaws.{among_each}
use Rattle.tg_calculus.proofs.DerivedRules.{assumed, theorem_of}

module _ (th : Theory) (accepted : IsAccepted th) where
  abbrev Form : Formula → Type 0
  Form F = IsFormula th [] F

  -- the hypotheses are formulas
  class_forms : (n : ℕ) (cs : List Class) (xs : List Choice) → Each (IsClassOf th) cs → AreComputed th cs xs → sequent.Each Form (formulas (of_classes n cs xs))
  class_forms n [] xs is e = tt
  class_forms n (c ∷ cs) [] is e = absurd e
  class_forms n (c ∷ cs) (None ∷ xs) is e = ((classes_are_well_formed th c is.0).0, class_forms (suc n) cs xs is.1 e.1)
  class_forms n (c ∷ cs) (Some vs ∷ xs) is e =
      (tests_are_well_formed th c vs accepted is.0 e.0.0, ((classes_are_well_formed th c is.0).1, class_forms (suc n) cs xs is.1 e.1))

  regularity_forms : (k : ℕ) (o : Option Formula) → regularity_of th k ≡ o → sequent.Each Form (formulas (of_regularity o))
  regularity_forms k None e = tt
  regularity_forms k (Some f) e = (regularity_is_well_formed th k f accepted.well_typed e, tt)

  pub all_forms : (k : ℕ) (cs : List Class) (xs : List Choice) → Each (IsClassOf th) cs → AreComputed th cs xs
      → sequent.Each Form (formulas (hypotheses_of th k cs xs))
  all_forms k cs xs is e =
      let hs = of_classes 1 cs xs in
      let rs = of_regularity (regularity_of th k) in
      subst (λ l. sequent.Each Form l) (sym (map-append (λ (h : Hypothesis). h.formula) hs rs))
      (each_append Form (formulas hs) (formulas rs) (class_forms 1 cs xs is e) (regularity_forms k (regularity_of th k) refl))

  module _ (H : Hypotheses) where
    classes_follow : (n : ℕ) (cs : List Class) (xs : List Choice) → Each (IsClassOf th) cs → Each (λ c. Each (λ t. has_call t ≡ false) c.constraints) cs
        → AreComputed th cs xs → sequent.Each (λ F. Follows th [] H F) (formulas (of_classes n cs xs)) → Each (λ c. Follows th [] H (open_class_of c)) cs
    classes_follow n [] xs is calls e h = tt
    classes_follow n (c ∷ cs) [] is calls e h = absurd e
    classes_follow n (c ∷ cs) (None ∷ xs) is calls e h = (h.0, classes_follow (suc n) cs xs is.1 calls.1 e.1 h.1)
    classes_follow n (c ∷ cs) (Some vs ∷ xs) is calls e h =
        (tested_line th accepted c is.0 vs e.0.0 H calls.0 e.0.1 h.0 h.1.0, classes_follow (suc n) cs xs is.1 calls.1 e.1 h.1.1)

    patterns_follow : sequent.Each Form H → (ps : List Pattern) → AllOf (IsPatternOf th th.program.inputs) ps → (cs : List Class) → AreClassesOf th ps cs
        → Each (λ c. Follows th [] H (open_class_of c)) cs
        → AllOf (λ p. Follows th [] H (universal_closure p.variables (implies (tested p.terms) (atom (start th p).term)))) ps
    patterns_follow wf [] is cs a h = tt
    patterns_follow wf (p ∷ ps) is cs a h =
        let P = λ (c : Class). Follows th [] H (open_class_of c) in
        let both = subst (λ l. Each P l) a.4 h in
        (closed_pattern_line th accepted p is.0 a.0 a.2 H wf (each_left P a.0 a.1 both), patterns_follow wf ps is.1 a.1 a.3 (each_right P a.0 a.1 both))

  pub themselves : (H : Hypotheses) → sequent.Each Form H → (K : Hypotheses) → ((F : Formula) → IsAmong F K → IsAmong F H)
      → sequent.Each (λ F. Follows th [] H F) K
  themselves H wf [] f = tt
  themselves H wf (F ∷ K) f =
      (assumed th [] tt (among_each Form H F wf (f F (inl refl))) (f F (inl refl)), themselves H wf K (λ Q i. f Q (inr i)))

all_theorems : (th : Theory) (H : Hypotheses) → sequent.Each (IsFormula th []) H → (G : Pattern → Formula) (ps : List Pattern)
    → AllOf (λ p. Follows th [] H (G p)) ps → AllOf (λ p. IsTheorem th [] H (G p)) ps
all_theorems th H wf G [] h = tt
all_theorems th H wf G (p ∷ ps) h = (theorem_of th [] wf h.0, all_theorems th H wf G ps h.1)

pub each_pattern_is_derivable : EachPatternIsDerivable
each_pattern_is_derivable th k cs xs accepted are e =
    let H = formulas (hypotheses_of th k cs xs) in
    let is = classes_typed th k cs accepted are in
    let wf = all_forms th accepted k cs xs is e in
    let hs = of_classes 1 cs xs in
    let rs = of_regularity (regularity_of th k) in
    let all = subst (λ l. sequent.Each (λ F. Follows th [] H F) l) (map-append (λ (h : Hypothesis). h.formula) hs rs)
    (themselves th accepted H wf H (λ F i. i)) in
    let known = first_each (λ F. Follows th [] H F) (formulas hs) (formulas rs) all in
    all_theorems th H wf (λ p. universal_closure p.variables (implies (tested p.terms) (atom (start th p).term))) (patterns th k)
    (patterns_follow th accepted H wf (patterns th k) (patterns_are_typed th k accepted) cs (classes_are_of_trees th k cs are)
    (classes_follow th accepted H 1 cs xs is (no_call_in_constraints th k cs are) e known))

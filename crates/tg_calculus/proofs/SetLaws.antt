-- Of the hypotheses of a theorem only the set counts.
use Rattle.std.proofs.Common.{ℕ, ◌≡◌, ◌≢◌, Bool, true, false, List, [], ◌∷◌, ◌++◌, refl, sym, ◌∙◌, ap, subst, inl, inr, ◌⊎◌, append_assoc, if◌then◌else◌}
use Rattle.tg_model.specs.Types.{Ty}
use Rattle.tg_model.specs.Formula.{Formula, Sequent, atom}
use Rattle.tg_model.specs.Equality.{same_formula}
use Rattle.tg_model.specs.Theory.{Theory}
use Rattle.tg_model.specs.Accepted.{IsAmong, AreDistinct}
use Rattle.tg_model.proofs.Booleans.{or_cases, or_left, or_right}
use Rattle.tg_model.proofs.Equalities.{decides_formulas}
use Rattle.tg_calculus.specs.Sequent.{Context, Hypotheses, ◌│◌⊢◌, Each, denied, has, added, ◌∪◌, ◌∖◌}
use Rattle.tg_calculus.specs.Cases.{own_equation, collected}
use Rattle.tg_calculus.specs.Rule as rule
use Rattle.tg_calculus.specs.Rule.{Rule}
use Rattle.tg_calculus.specs.Step as step
use Rattle.tg_calculus.specs.Step.{Step, IsContext, IsFormula}
use Rattle.tg_calculus.specs.Derivation as derivation
use Rattle.tg_calculus.specs.Derivation.{Derives, AllDerived, by_rule}
use Rattle.tg_calculus.specs.Laws.{OnlySetsCount}
use Rattle.tg_calculus.proofs.Hypotheses.{by_if, each_append}
use Rattle.tg_calculus.proofs.Formed.{formed}
use Rattle.tg_calculus.proofs.BookLaws.{append_nothing}

-- among hypotheses
among_append : (F : Formula) (H K : Hypotheses) → IsAmong F (H ++ K) → IsAmong F H ⊎ IsAmong F K
among_append F [] K i = inr i
among_append F (G ∷ H) K (inl e) = inl (inl e)
among_append F (G ∷ H) K (inr i) = elim (among_append F H K i) [ inl j ↦ inl (inr j) | inr j ↦ inr j ]

has_among : (H : Hypotheses) (F : Formula) → IsAmong F H → has H F ≡ true
has_among [] F i = absurd i
has_among (G ∷ H) F (inl e) = or_left (same_formula G F) (has H F) ((decides_formulas G F).1 (sym e))
has_among (G ∷ H) F (inr i) = or_right (same_formula G F) (has H F) (has_among H F i)

not_among : (H : Hypotheses) (F : Formula) → has H F ≡ false → ¬ (IsAmong F H)
not_among H F e i = let q : true ≡ false = sym (has_among H F i) ∙ e in cc

among_left : (H : Hypotheses) (F G : Formula) → IsAmong G (H ∖ F) → IsAmong G H
among_left [] F G i = i
among_left (Q ∷ H) F G i =
    elim (one (same_formula Q F) i) [ inl j ↦ inr (among_left H F G j) | inr j ↦ elim j [ inl e ↦ inl e | inr k ↦ inr (among_left H F G k) ] ]
  where
    one : (b : Bool) → IsAmong G (if b then H ∖ F else Q ∷ (H ∖ F)) → IsAmong G (H ∖ F) ⊎ IsAmong G (Q ∷ (H ∖ F))
    one true i = inl i
    one false i = inr i

-- none is repeated
end_distinct : (H : Hypotheses) (F : Formula) → ¬ (IsAmong F H) → AreDistinct H → AreDistinct (H ++ F ∷ [])
end_distinct [] F n d = ((λ i. i), tt)
end_distinct (G ∷ H) F n d = (
  (λ i. elim (among_append G H (F ∷ []) i) [ inl j ↦ d.0 j | inr j ↦ elim j [ inl e ↦ n (inl (sym e)) | inr k ↦ k ] ]),
  end_distinct H F
      (λ i. n (inr i)) d.1,
)

added_distinct : (H : Hypotheses) (F : Formula) → AreDistinct H → AreDistinct (added H F)
added_distinct H F d = by_if (λ (K : Hypotheses). AreDistinct K) (has H F) H (H ++ F ∷ []) (λ e. d) (λ e. end_distinct H F (not_among H F e) d)

joined_distinct : (H K : Hypotheses) → AreDistinct H → AreDistinct (H ∪ K)
joined_distinct H [] d = d
joined_distinct H (F ∷ K) d = joined_distinct (added H F) K (added_distinct H F d)

left_distinct : (H : Hypotheses) (F : Formula) → AreDistinct H → AreDistinct (H ∖ F)
left_distinct [] F d = tt
left_distinct (G ∷ H) F d =
    by_if (λ (K : Hypotheses). AreDistinct K) (same_formula G F) (H ∖ F) (G ∷ (H ∖ F)) (λ e. left_distinct H F d.1)
    (λ e. ((λ i. d.0 (among_left H F G i)), left_distinct H F d.1))

collected_distinct : (H : Hypotheses) (G : Context) (n c : ℕ) (args : List (List Ty)) (ps : List Sequent) → AreDistinct H
    → AreDistinct (collected H G n c args ps)
collected_distinct H G n c [] [] d = d
collected_distinct H G n c [] (p ∷ ps) d = d
collected_distinct H G n c (Ts ∷ rest) [] d = d
collected_distinct H G n c (Ts ∷ rest) (p ∷ ps) d =
    collected_distinct (H ∪ p.hypotheses ∖ own_equation G n c Ts) G n _ rest ps (joined_distinct H (p.hypotheses ∖ own_equation G n c Ts) d)

abbrev Distinct : Sequent → Type 0
Distinct s = AreDistinct s.hypotheses

step_distinct : {th : Theory} {r : Rule} {ps : List Sequent} {s : Sequent} → Step th r ps s → Each Distinct ps → Distinct s
step_distinct (step.hyp c w) d = ((λ i. i), tt)
step_distinct (step.weak {G} {H} {F} w) d = added_distinct H F d.0
step_distinct (step.cut {G} {H} {K} {F}) d = joined_distinct H (K ∖ F) d.0
step_distinct (step.grow c) d = d.0
step_distinct (step.and_i {G} {H} {K}) d = joined_distinct H K d.0
step_distinct (step.and_l) d = d.0
step_distinct (step.and_r) d = d.0
step_distinct (step.imp_i {G} {H} {F} w) d = left_distinct H F d.0
step_distinct (step.mp {G} {H} {K}) d = joined_distinct H K d.0
step_distinct (step.all_i u) d = d.0
step_distinct (step.all_e t) d = d.0
step_distinct (step.ex_i w t e) d = d.0
step_distinct (step.ex_e {G} {H} {K} {T} {F} {F'} e u v) d = joined_distinct H (K ∖ F') d.0
step_distinct (step.thyp_i) d = d.0
step_distinct (step.thyp_e) d = d.0
step_distinct (step.truth c) d = tt
step_distinct (step.falsity w) d = d.0
step_distinct (step.split {G} {H} {K} {Q} {t} w) d = joined_distinct (H ∖ atom t) (K ∖ denied t) (left_distinct H (atom t) d.0)
step_distinct (step.reflexive c w) d = tt
step_distinct (step.symmetric) d = d.0
step_distinct (step.transitive {G} {H} {K} w) d = joined_distinct H K d.0
step_distinct (step.replace {G} {H} {K} r w) d = joined_distinct H K d.0
step_distinct (step.schema c e w) d = tt
step_distinct (step.exhaust G {Q} {n} k Ts {p} {ps} e is) d = collected_distinct [] G n _ _ (p ∷ ps) tt
step_distinct (step.deep c w h) d = tt
step_distinct (step.compute c w n h) d = tt

module _ (th : Theory) where
  mutual
    derived_distinct : {s : Sequent} → Derives th s → Distinct s
    derived_distinct (by_rule r ds x) = step_distinct x (all_distinct ds)

    all_distinct : {ps : List Sequent} → AllDerived th ps → Each Distinct ps
    all_distinct derivation.none = tt
    all_distinct (derivation.more d ds) = (derived_distinct d, all_distinct ds)

  -- a hypothesis is put last
  put_last : (G : Context) (K : Hypotheses) (h F : Formula) → IsFormula th G h → Derives th (G │ K ⊢ F) → Derives th (G │ added (K ∖ h) h ⊢ F)
  put_last G K h F wf d =
      let assumed = by_rule (rule.hyp G h) derivation.none (step.hyp (formed th d).context wf) in
      let without = by_rule (rule.imp_i h) (derivation.more d derivation.none) (step.imp_i wf) in
      by_rule rule.mp (derivation.more without (derivation.more assumed derivation.none)) step.mp

  moved : Hypotheses → Hypotheses → Hypotheses
  moved K [] = K
  moved K (h ∷ H) = moved (added (K ∖ h) h) H

  all_put_last : (G : Context) (K H : Hypotheses) (F : Formula) → Each (IsFormula th G) H → Derives th (G │ K ⊢ F) → Derives th (G │ moved K H ⊢ F)
  unfolding moved
  all_put_last G K [] F wf d = d
  all_put_last G K (h ∷ H) F wf d = all_put_last G (added (K ∖ h) h) H F wf.1 (put_last G K h F wf.0 d)

pub among_each : (P : Formula → Type 0) (K : Hypotheses) (F : Formula) → Each P K → IsAmong F K → P F
among_each P [] F h i = absurd i
among_each P (G ∷ K) F h (inl e) = subst P (sym e) h.0
among_each P (G ∷ K) F h (inr i) = among_each P K F h.1 i

pub each_among : (P : Formula → Type 0) (K : Hypotheses) → ((F : Formula) → IsAmong F K → P F) → Each P K
each_among P [] h = tt
each_among P (G ∷ K) h = (h G (inl refl), each_among P K (λ F i. h F (inr i)))

pub each_other : (P : Formula → Type 0) (K : Hypotheses) (h : Formula) → Each P K → Each (λ F. P F × (F ≢ h)) (K ∖ h)
each_other P [] h e = tt
each_other P (G ∷ K) h e =
    by_if (Each (λ F. P F × (F ≢ h))) (same_formula G h) (K ∖ h) (G ∷ (K ∖ h)) (λ b. each_other P K h e.1)
    (λ b. ((e.0, λ q. let x : true ≡ false = sym ((decides_formulas G h).1 q) ∙ b in cc x), each_other P K h e.1))

left_append : (K D : Hypotheses) (h : Formula) → (K ++ D) ∖ h ≡ (K ∖ h) ++ (D ∖ h)
left_append [] D h = refl
left_append (G ∷ K) D h = at (same_formula G h) (left_append K D h)
  where
    at : (b : Bool) → (K ++ D) ∖ h ≡ (K ∖ h) ++ (D ∖ h) → (if b then (K ++ D) ∖ h else G ∷ ((K ++ D) ∖ h)) ≡ (if b then K ∖ h else G ∷ (K ∖ h)) ++ (D ∖ h)
    at true e = e
    at false e = ap (λ l. G ∷ l) e

left_other : (D : Hypotheses) (h : Formula) → Each (λ F. F ≢ h) D → D ∖ h ≡ D
left_other [] h e = refl
left_other (G ∷ D) h e =
    by_if (λ (l : Hypotheses). l ≡ G ∷ D) (same_formula G h) (D ∖ h) (G ∷ (D ∖ h)) (λ b. absurd (e.0 ((decides_formulas G h).0 b)))
    (λ b. ap (λ l. G ∷ l) (left_other D h e.1))

among_has : (H : Hypotheses) (F : Formula) → has H F ≡ true → IsAmong F H
among_has [] F e = cc e
among_has (G ∷ H) F e = elim (or_cases (same_formula G F) (has H F) e) [ inl p ↦ inl (sym ((decides_formulas G F).0 p)) | inr p ↦ inr (among_has H F p) ]

added_new : (H : Hypotheses) (F : Formula) → ¬ (IsAmong F H) → added H F ≡ H ++ F ∷ []
added_new H F n =
    by_if (λ (l : Hypotheses). l ≡ H ++ F ∷ []) (has H F) H (H ++ F ∷ []) (λ e. absurd (n (among_has H F e))) (λ e. refl)

-- what is moved in the order of `H`, all of what is left being among it
moved_all : (th : Theory) (K D H : Hypotheses) → Each (λ F. IsAmong F H) K → Each (λ F. ¬ (IsAmong F H)) D → AreDistinct H → moved th (K ++ D) H ≡ D ++ H
unfolding moved
moved_all th [] D [] a b d = sym (append_nothing D)
moved_all th (F ∷ K) D [] a b d = absurd a.0
moved_all th K D (h ∷ H) a b d =
    ap (λ (l : Hypotheses). moved th l H) next_is
    ∙ (moved_all th (K ∖ h) (D ++ h ∷ []) H rest gone d.1 ∙ append_assoc D (h ∷ []) H)
  where
    others : Each (λ F. IsAmong F (h ∷ H) × (F ≢ h)) (K ∖ h)
    others = each_other (λ F. IsAmong F (h ∷ H)) K h a

    rest : Each (λ F. IsAmong F H) (K ∖ h)
    rest = each_among (λ F. IsAmong F H) (K ∖ h)
        (λ F i. let p = among_each (λ Q. IsAmong Q (h ∷ H) × (Q ≢ h)) (K ∖ h) F others i in elim p.0 [ inl e ↦ absurd (p.1 e) | inr j ↦ j ])

    gone : Each (λ F. ¬ (IsAmong F H)) (D ++ h ∷ [])
    gone = each_append (λ F. ¬ (IsAmong F H)) D (h ∷ [])
        (each_among (λ F. ¬ (IsAmong F H)) D (λ F i j. among_each (λ Q. ¬ (IsAmong Q (h ∷ H))) D F b i (inr j))) (d.0, tt)

    apart : Each (λ F. F ≢ h) D
    apart = each_among (λ F. F ≢ h) D (λ F i e. among_each (λ Q. ¬ (IsAmong Q (h ∷ H))) D F b i (inl e))

    absent : ¬ (IsAmong h ((K ∖ h) ++ D))
    absent i =
        elim (among_append h (K ∖ h) D i) [
          | inl j ↦ (among_each (λ Q. IsAmong Q (h ∷ H) × (Q ≢ h)) (K ∖ h) h others j).1 refl
          | inr j ↦ among_each (λ Q. Q ≢ h) D h apart j refl
        ]

    left_is : (K ++ D) ∖ h ≡ (K ∖ h) ++ D
    left_is = left_append K D h ∙ ap (λ (l : Hypotheses). (K ∖ h) ++ l) (left_other D h apart)

    next_is : added ((K ++ D) ∖ h) h ≡ (K ∖ h) ++ (D ++ h ∷ [])
    next_is = ap (λ (l : Hypotheses). added l h) left_is ∙ (added_new ((K ∖ h) ++ D) h absent ∙ append_assoc (K ∖ h) D (h ∷ []))

pub only_sets_count : OnlySetsCount
only_sets_count th G H F = (
  λ d. (derived_distinct th d, (H, record { into = λ Q i. i; back = λ Q i. i }, d)),
  λ p.
      let K = p.1.0 in
      let same = p.1.1 in
      let d = p.1.2 in
      let wf : Each (IsFormula th G) H = each_among (IsFormula th G) H (λ Q i. among_each (IsFormula th G) K Q (formed th d).each (same.into Q i)) in
      let within : Each (λ Q. IsAmong Q H) K = each_among (λ Q. IsAmong Q H) K (λ Q i. same.back Q i) in
      let e : moved th K H ≡ H = ap (λ (l : Hypotheses). moved th l H) (sym (append_nothing K)) ∙ moved_all th K [] H within tt p.0 in
      subst (λ (l : Hypotheses). Derives th (G │ l ⊢ F)) e (all_put_last th G K H F wf d),
)

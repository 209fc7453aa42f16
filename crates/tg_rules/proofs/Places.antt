-- The place of a fault is one place: the end of the longest front with which a text begins.
use Rattle.std.proofs.Common.{◌≡◌, ◌⊎◌, ◌↔◌, ◌≤◌, List, [], ◌∷◌, ◌++◌, length, inl, inr, refl, sym, ap, subst, ◌∙◌, append_assoc, append-nil, length-append, arith}
use Rattle.tg_rules.specs.Fault.{Begins, IsWrongAt, IsFault, IsLongestFront}
use Rattle.tg_rules.proofs.Firsts.{not_nothing, first_same, rest_same}

-- of two fronts of the same tokens, one is a front of the other
module _ {T : Type 0} where
  abbrev pub IsFurther : List T → List T → List T → Type 0
  IsFurther p left q = (t : T) × (s : List T) × (rest : List T) × (q ≡ p ++ t ∷ s) × (left ≡ t ∷ rest)

  further_by : (x : T) (p left q : List T) → IsFurther p left q → IsFurther (x ∷ p) left (x ∷ q)
  further_by x p left q (t, s, rest, e, l) = (t, s, rest, ap (λ y. x ∷ y) e, l)

  same_first : (x y : T) (p left q : List T) → x ≡ y → IsFurther (x ∷ p) left (x ∷ q) → IsFurther (x ∷ p) left (y ∷ q)
  same_first x y p left q e h = subst (λ z. IsFurther (x ∷ p) left (z ∷ q)) e h

  pub fronts : (p q left rest : List T) → p ++ left ≡ q ++ rest → ((p ≡ q) × (left ≡ rest)) ⊎ IsFurther p left q ⊎ IsFurther q rest p
  fronts [] [] left rest e = inl (refl, e)
  fronts [] (y ∷ q) left rest e = inr (inl (y, q, q ++ rest, refl, e))
  fronts (x ∷ p) [] left rest e = inr (inr (x, p, p ++ left, refl, sym e))
  fronts (x ∷ p) (y ∷ q) left rest e =
      let one : x ≡ y = first_same x y (p ++ left) (q ++ rest) e in
      elim (fronts p q left rest (rest_same x y (p ++ left) (q ++ rest) e)) [
        | inl (same, also) ↦ inl (ap (λ z. z ∷ p) one ∙ ap (λ z. y ∷ z) same, also)
        | inr (inl h) ↦ inr (inl (same_first x y p left q one (further_by x p left q h)))
        | inr (inr h) ↦ inr (inr (same_first y x q rest p (sym one) (further_by y q rest p h)))
      ]

module _ {T V : Type 0} (R : V → List T → Type 0) where
  -- of what begins a text, every front does
  pub begins_front : (p q : List T) → Begins R (p ++ q) → Begins R p
  begins_front p q (rest, v, r) = (q ++ rest, v, subst (λ z. R v z) (append_assoc p q rest) r)

  pub text_begins : (v : V) (ts : List T) → R v ts → Begins R ts
  text_begins v ts r = ([], v, subst (λ z. R v z) (sym (append-nil ts)) r)

  pub all_begins : (v : V) (ts p left : List T) → R v ts → ts ≡ p ++ left → Begins R p
  all_begins v ts p left r e = begins_front p left (subst (λ z. Begins R z) e (text_begins v ts r))

  -- what begins a text ends at the fault or before it
  stops : (p left q : List T) → IsWrongAt R p left → Begins R q → IsFurther p left q → ⊥
  stops p [] q wrong begins (t, s, rest, e, l) = not_nothing t rest l
  stops p (u ∷ left) q wrong begins (t, s, rest, e, l) =
      let one : t ≡ u = sym (first_same u t left rest l) in
      let longer : q ≡ (p ++ t ∷ []) ++ s = e ∙ sym (append_assoc p (t ∷ []) s) in
      wrong (subst (λ z. Begins R (p ++ z ∷ [])) one (begins_front (p ++ t ∷ []) s (subst (λ z. Begins R z) longer begins)))

  pub one_fault : (ts p q left rest : List T) → IsFault R ts p left → IsFault R ts q rest → (p ≡ q) × (left ≡ rest)
  one_fault ts p q left rest (e1, begins1, wrong1) (e2, begins2, wrong2) =
      elim (fronts p q left rest (sym e1 ∙ e2)) [
        | inl same ↦ same
        | inr (inl h) ↦ absurd (stops p left q wrong1 begins2 h)
        | inr (inr h) ↦ absurd (stops q rest p wrong2 begins1 h)
      ]

  pub not_both : (v : V) (ts p left : List T) → R v ts → IsFault R ts p left → ⊥
  not_both v ts p [] r (e, begins, wrong) = wrong v (subst (λ z. R v z) (e ∙ append-nil p) r)
  not_both v ts p (t ∷ left) r (e, begins, wrong) = wrong (all_begins v ts (p ++ t ∷ []) left r (e ∙ sym (append_assoc p (t ∷ []) left)))

  pub longest : (ts p left q rest : List T) → IsFault R ts p left → ts ≡ q ++ rest → Begins R q → length q ≤ length p
  longest ts p left q rest (e1, begins1, wrong) e2 begins2 =
      elim (fronts p q left rest (sym e1 ∙ e2)) [
        | inl same ↦ omega (arith, ap length same.0)
        | inr (inl h) ↦ absurd (stops p left q wrong begins2 h)
        | inr (inr (t, s, more, e, l)) ↦ omega (arith, ap length e, length-append q (t ∷ s))
      ]

  -- and the longest front is where the fault is
  at_longest : (ts p left : List T) → ts ≡ p ++ left → IsLongestFront R ts p → ((v : V) → R v ts → ⊥) → IsWrongAt R p left
  at_longest ts p [] e most none = λ v r. none v (subst (λ z. R v z) (sym (e ∙ append-nil p)) r)
  at_longest ts p (t ∷ left) e most none =
      λ begins. let le = most.1 (p ++ t ∷ []) left (e ∙ sym (append_assoc p (t ∷ []) left)) begins in omega (arith, le, length-append p (t ∷ []))

  pub fault_is_longest : (ts p left : List T) → ts ≡ p ++ left → IsFault R ts p left ↔ (IsLongestFront R ts p × ((v : V) → ¬ R v ts))
  fault_is_longest ts p left e = (
    λ h. ((h.1, λ q rest e2 begins. longest ts p left q rest h e2 begins), λ v r. not_both v ts p left r h),
    λ h. (e, h.0.0, at_longest ts p left e h.0 h.1),
  )

-- relations with the same texts have the same faults
module _ {T V : Type 0} (R S : V → List T → Type 0) (same : (v : V) (ts : List T) → R v ts ↔ S v ts) where
  begins_also : (p : List T) → Begins R p ↔ Begins S p
  begins_also p = (λ h. (h.0, h.1, (same h.1 (p ++ h.0)).0 h.2), λ h. (h.0, h.1, (same h.1 (p ++ h.0)).1 h.2))

  wrong_also : (p left : List T) → IsWrongAt R p left → IsWrongAt S p left
  wrong_also p [] wrong = λ v s. wrong v ((same v p).1 s)
  wrong_also p (t ∷ left) wrong = λ more. wrong ((begins_also (p ++ t ∷ [])).1 more)

  pub fault_also : (ts p left : List T) → IsFault R ts p left → IsFault S ts p left
  fault_also ts p left (e, begins, wrong) = (e, (begins_also p).0 begins, wrong_also p left wrong)

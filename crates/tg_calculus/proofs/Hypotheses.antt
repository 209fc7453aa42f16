-- What holds of each hypothesis of a list, of two lists, and of what is left of one.
use Rattle.std.proofs.Common.{◌≡◌, Bool, true, false, [], ◌∷◌, ◌++◌, refl, sym, subst, inl, inr, if◌then◌else◌}
use Rattle.tg_model.specs.Formula.{Formula}
use Rattle.tg_model.specs.Equality.{same_formula}
use Rattle.tg_model.proofs.Booleans.{or_cases}
use Rattle.tg_model.proofs.Equalities.{decides_formulas}
use Rattle.tg_calculus.specs.Sequent.{Hypotheses, Each, has, added, ◌∪◌, ◌∖◌}

pub by_if : {A : Type 0} (P : A → Type 0) (b : Bool) (x y : A) → (b ≡ true → P x) → (b ≡ false → P y) → P (if b then x else y)
by_if P true x y p q = p refl
by_if P false x y p q = q refl

pub from_if : {A R : Type 0} (P : A → Type 0) (b : Bool) (x y : A) → P (if b then x else y) → (b ≡ true → P x → R) → (b ≡ false → P y → R) → R
from_if P true x y h p q = p refl h
from_if P false x y h p q = q refl h

module _ (P : Formula → Type 0) where
  pub each_append : (H K : Hypotheses) → Each P H → Each P K → Each P (H ++ K)
  each_append [] K h k = k
  each_append (G ∷ H) K h k = (h.0, each_append H K h.1 k)

  pub first_each : (H K : Hypotheses) → Each P (H ++ K) → Each P H
  first_each [] K h = tt
  first_each (G ∷ H) K h = (h.0, first_each H K h.1)

  pub last_each : (H K : Hypotheses) → Each P (H ++ K) → Each P K
  last_each [] K h = h
  last_each (G ∷ H) K h = last_each H K h.1

  pub each_added : (H : Hypotheses) (F : Formula) → Each P H → P F → Each P (added H F)
  each_added H F h p = by_if (Each P) (has H F) H (H ++ F ∷ []) (λ e. h) (λ e. each_append H (F ∷ []) h (p, tt))

  pub each_joined : (H K : Hypotheses) → Each P H → Each P K → Each P (H ∪ K)
  each_joined H [] h k = h
  each_joined H (F ∷ K) h k = each_joined (added H F) K (each_added H F h k.0) k.1

  pub each_left : (H : Hypotheses) (F : Formula) → Each P H → Each P (H ∖ F)
  each_left [] F h = tt
  each_left (G ∷ H) F h = by_if (Each P) (same_formula G F) (H ∖ F) (G ∷ (H ∖ F)) (λ e. each_left H F h.1) (λ e. (h.0, each_left H F h.1))

  -- and back
  one_of : (H : Hypotheses) (F : Formula) → has H F ≡ true → Each P H → P F
  one_of [] F e h = cc e
  one_of (G ∷ H) F e h =
      elim (or_cases (same_formula G F) (has H F) e) [ inl p ↦ subst P ((decides_formulas G F).0 p) h.0 | inr p ↦ one_of H F p h.1 ]

  pub of_added : (H : Hypotheses) (F : Formula) → Each P (added H F) → Each P H × P F
  of_added H F h =
      from_if (Each P) (has H F) H (H ++ F ∷ []) h (λ e k. (k, one_of H F e k)) (λ e k. (first_each H (F ∷ []) k, (last_each H (F ∷ []) k).0))

  pub of_joined : (H K : Hypotheses) → Each P (H ∪ K) → Each P H × Each P K
  of_joined H [] h = (h, tt)
  of_joined H (F ∷ K) h = let p = of_joined (added H F) K h in let q = of_added H F p.0 in (q.0, (q.1, p.1))

  -- each of what is left, and what was taken out
  pub of_left : (H : Hypotheses) (F : Formula) → P F → Each P (H ∖ F) → Each P H
  of_left [] F p h = tt
  of_left (G ∷ H) F p h =
      from_if (Each P) (same_formula G F) (H ∖ F) (G ∷ (H ∖ F)) h
      (λ e k. (subst P (sym ((decides_formulas G F).0 e)) p, of_left H F p k))
      (λ e k. (k.0, of_left H F p k.1))

-- The rules over a bound on the hypotheses: what follows from some of them. So no proof by them speaks of exact lists.
use Rattle.std.proofs.Common.{ℕ, suc, ◌≡◌, ◌≢◌, true, false, List, [], ◌∷◌, ◌++◌, Some, refl, ◌∙◌, inl, inr, ◌||◌}
use Rattle.tg_model.specs.Tree as tree
use Rattle.tg_model.specs.Tree.{Tree, Trees, free}
use Rattle.tg_model.specs.Types.{Ty, bool}
use Rattle.tg_model.specs.Formula as formula
use Rattle.tg_model.specs.Formula.{Formula, atom, both, implies, all, some, thyp}
use Rattle.tg_model.specs.Theory.{Theory}
use Rattle.tg_model.specs.Walk.{abstracted_formula, instantiated_formula}
use Rattle.tg_model.specs.Calls.{has_call}
use Rattle.tg_model.specs.Accepted.{IsAmong}
use Rattle.tg_model.proofs.Booleans.{or_left_false, or_right_false}
use Rattle.tg_rows.specs.Rows.{row}
use Rattle.tg_calculus.specs.Sequent.{Context, Hypotheses, ◌│◌⊢◌, Each, equation, denied, added, ◌∪◌, ◌∖◌, next, uses_new, some_use_new}
use Rattle.tg_calculus.specs.Replacement.{FormulaReplaced}
use Rattle.tg_calculus.specs.Chains.{some_has_chain}
use Rattle.tg_calculus.specs.Computing.{computes}
use Rattle.tg_calculus.specs.Rule as rule
use Rattle.tg_calculus.specs.Step as step
use Rattle.tg_calculus.specs.Step.{IsContext, IsFormula, IsTerm}
use Rattle.tg_calculus.specs.Derivation as derivation
use Rattle.tg_calculus.specs.Derivation.{Derives, by_rule}
use Rattle.tg_calculus.specs.Theorem.{AreSame, IsTheorem, AreWithin, Follows}
use Rattle.tg_calculus.specs.Laws.{FollowingIsTheorem}
use Rattle.tg_calculus.proofs.Hypotheses.{each_added, each_joined, of_added}
use Rattle.tg_calculus.proofs.Formed.{formed}
use Rattle.tg_calculus.proofs.SetLaws.{among_each, each_among, each_other}

module _ (th : Theory) (G : Context) where
  found : {H : Hypotheses} {F : Formula} → ((K : Hypotheses) × AreWithin K H × Derives th (G │ K ⊢ F)) → Follows th G H F
  found p = record { used = p.0; within = p.1; derived = p.2 }

  pub well_formed : {H : Hypotheses} {F : Formula} → Follows th G H F → IsFormula th G F
  well_formed p = (formed th p.derived).goal

  pub context_of : {H : Hypotheses} {F : Formula} → Follows th G H F → IsContext th G
  context_of p = (formed th p.derived).context

  pub widened : {H K : Hypotheses} {F : Formula} → AreWithin H K → Follows th G H F → Follows th G K F
  widened {H} {K} w p = found (
    p.used,
    each_among (λ Q. IsAmong Q K) p.used
        (λ Q i. among_each (λ R. IsAmong R K) H Q w (among_each (λ R. IsAmong R H) p.used Q p.within i)),
    p.derived,
  )

  -- of what is left without the first formula of a bound
  left_within : (K H : Hypotheses) (F : Formula) → AreWithin K (F ∷ H) → AreWithin (K ∖ F) H
  left_within K H F w =
      let o = each_other (λ Q. IsAmong Q (F ∷ H)) K F w in
      each_among (λ Q. IsAmong Q H) (K ∖ F)
      (λ Q i. let p = among_each (λ R. IsAmong R (F ∷ H) × (R ≢ F)) (K ∖ F) Q o i in elim p.0 [ inl e ↦ absurd (p.1 e) | inr j ↦ j ])

  pub assumed : {H : Hypotheses} {F : Formula} → IsContext th G → IsFormula th G F → IsAmong F H → Follows th G H F
  assumed {H} {F} closed wf i = found (F ∷ [], (i, tt), by_rule (rule.hyp G F) derivation.none (step.hyp closed wf))

  pub by_cut : {H : Hypotheses} {F Q : Formula} → Follows th G H F → Follows th G (F ∷ H) Q → Follows th G H Q
  by_cut {H} {F} p q = found (
    p.used ∪ q.used ∖ F,
    each_joined (λ R. IsAmong R H) p.used (q.used ∖ F) p.within (left_within q.used H F q.within),
    by_rule rule.cut (derivation.more p.derived (derivation.more q.derived derivation.none)) step.cut,
  )

  pub conjoined : {H : Hypotheses} {F Q : Formula} → Follows th G H F → Follows th G H Q → Follows th G H (both F Q)
  conjoined {H} p q =
      found (
        p.used ∪ q.used,
        each_joined (λ R. IsAmong R H) p.used q.used p.within q.within,
        by_rule rule.and_i
            (derivation.more p.derived (derivation.more q.derived derivation.none)) step.and_i,
      )

  pub left_of : {H : Hypotheses} {F Q : Formula} → Follows th G H (both F Q) → Follows th G H F
  left_of p = found (p.used, p.within, by_rule rule.and_l (derivation.more p.derived derivation.none) step.and_l)

  pub right_of : {H : Hypotheses} {F Q : Formula} → Follows th G H (both F Q) → Follows th G H Q
  right_of p = found (p.used, p.within, by_rule rule.and_r (derivation.more p.derived derivation.none) step.and_r)

  pub conditional : {H : Hypotheses} {F Q : Formula} → IsFormula th G F → Follows th G (F ∷ H) Q → Follows th G H (implies F Q)
  conditional {H} {F} wf p = found (
    p.used ∖ F,
    left_within p.used H F p.within,
    by_rule (rule.imp_i F) (derivation.more p.derived derivation.none)
        (step.imp_i wf),
  )

  pub detached : {H : Hypotheses} {F Q : Formula} → Follows th G H (implies F Q) → Follows th G H F → Follows th G H Q
  detached {H} p q =
      found (
        p.used ∪ q.used,
        each_joined (λ R. IsAmong R H) p.used q.used p.within q.within,
        by_rule rule.mp
            (derivation.more p.derived (derivation.more q.derived derivation.none)) step.mp,
      )

  pub instanced : {H : Hypotheses} {T : Ty} {F : Formula} (t : Tree) → IsTerm th G t T → Follows th G H (all T F)
      → Follows th G H (instantiated_formula (t ∷ []) F)
  instanced t typed p = found (p.used, p.within, by_rule (rule.all_e t) (derivation.more p.derived derivation.none) (step.all_e typed))

  pub witnessed : {H : Hypotheses} {T : Ty} {F : Formula} (t : Tree) → IsFormula th G (some T F) → IsTerm th G t T
      → Follows th G H (instantiated_formula (t ∷ []) F) → Follows th G H (some T F)
  witnessed {H} {T} {F} t wf typed p = found (
    p.used,
    p.within,
    by_rule (rule.ex_i (some T F) t) (derivation.more p.derived derivation.none)
        (step.ex_i wf typed refl),
  )

  pub marked : {H : Hypotheses} {F : Formula} → Follows th G H F → Follows th G H (thyp F)
  marked p = found (p.used, p.within, by_rule rule.thyp_i (derivation.more p.derived derivation.none) step.thyp_i)

  pub unmarked : {H : Hypotheses} {F : Formula} → Follows th G H (thyp F) → Follows th G H F
  unmarked p = found (p.used, p.within, by_rule rule.thyp_e (derivation.more p.derived derivation.none) step.thyp_e)

  pub anything : {H : Hypotheses} {F : Formula} → IsFormula th G F → Follows th G H (atom (tree.truth false)) → Follows th G H F
  anything {H} {F} wf p = found (p.used, p.within, by_rule (rule.falsity F) (derivation.more p.derived derivation.none) (step.falsity wf))

  pub by_cases : {H : Hypotheses} {Q : Formula} (t : Tree) → IsTerm th G t bool → Follows th G (atom t ∷ H) Q → Follows th G (denied t ∷ H) Q
      → Follows th G H Q
  by_cases {H} t typed p q = found (
    p.used ∖ atom t ∪ q.used ∖ denied t,
    each_joined (λ R. IsAmong R H) (p.used ∖ atom t) (q.used ∖ denied t) (left_within p.used H (atom t) p.within) (left_within q.used H (denied t) q.within),
    by_rule (rule.split t) (derivation.more p.derived (derivation.more q.derived derivation.none)) (step.split typed),
  )

  pub turned : {H : Hypotheses} {s t : Tree} → Follows th G H (equation s t) → Follows th G H (equation t s)
  turned p = found (p.used, p.within, by_rule rule.symmetric (derivation.more p.derived derivation.none) step.symmetric)

  pub chained : {H : Hypotheses} {s t u : Tree} → IsFormula th G (equation s u) → Follows th G H (equation s t) → Follows th G H (equation t u)
      → Follows th G H (equation s u)
  chained {H} wf p q = found (
    p.used ∪ q.used,
    each_joined (λ R. IsAmong R H) p.used q.used p.within q.within,
    by_rule rule.transitive (derivation.more p.derived (derivation.more q.derived derivation.none)) (step.transitive wf),
  )

  pub replacing : {H : Hypotheses} {s t : Tree} {Q F : Formula} → FormulaReplaced s t Q F → IsFormula th G F → Follows th G H (equation s t)
      → Follows th G H Q
      → Follows th G H F
  replacing {H} {s} {t} {Q} {F} r wf p q = found (
    p.used ∪ q.used,
    each_joined (λ R. IsAmong R H) p.used q.used p.within q.within,
    by_rule (rule.replace F) (derivation.more p.derived (derivation.more q.derived derivation.none)) (step.replace r wf),
  )

  -- without hypotheses
  pub by_row : {H : Hypotheses} (k : ℕ) (t u : Tree) → IsContext th G → row th k t ≡ Some u → IsFormula th G (equation t u) → Follows th G H (equation t u)
  by_row k t u closed e wf = found ([], tt, by_rule (rule.schema G k t) derivation.none (step.schema closed e wf))

  pub by_computing : {H : Hypotheses} (t : Tree) → IsContext th G → IsFormula th [] (atom t) → has_call t ≡ false → computes th t ≡ true
      → Follows th G H (atom t)
  by_computing t closed wf no_call c = found ([], tt, by_rule (rule.compute G t) derivation.none (step.compute closed wf no_call c))

  pub itself : {H : Hypotheses} (t : Tree) → IsContext th G → IsFormula th G (equation t t) → Follows th G H (equation t t)
  itself t closed wf = found ([], tt, by_rule (rule.reflexive G t) derivation.none (step.reflexive closed wf))

  pub is_deep : {H : Hypotheses} (k : ℕ) (ts : Trees) → IsContext th G → IsFormula th G (formula.deep (suc k) ts)
      → some_has_chain th ts (suc k) th.program.inputs ≡ true
      → Follows th G H (formula.deep (suc k) ts)
  is_deep k ts closed wf chain = found ([], tt, by_rule (rule.deep G (suc k) ts) derivation.none (step.deep closed wf chain))

  -- a variable that is new to the hypotheses is new to some of them
  within_without : (Ts : List Ty) (K H : Hypotheses) → AreWithin K H → some_use_new G Ts H ≡ false → some_use_new G Ts K ≡ false
  within_without Ts [] H w e = refl
  within_without Ts (F ∷ K) H w e =
      let f : uses_new G Ts F ≡ false = among_each (λ Q. uses_new G Ts Q ≡ false) H F (none H e) w.0 in
      (λ i. f i || some_use_new G Ts K) ∙ within_without Ts K H w.1 e
    where
      none : (H : Hypotheses) → some_use_new G Ts H ≡ false → Each (λ Q. uses_new G Ts Q ≡ false) H
      none [] e = tt
      none (Q ∷ H) e = (or_left_false (uses_new G Ts Q) (some_use_new G Ts H) e, none H (or_right_false (uses_new G Ts Q) (some_use_new G Ts H) e))

  pub generalised : {H : Hypotheses} {T : Ty} {F : Formula} → some_use_new G (T ∷ []) H ≡ false → Follows th (G ++ T ∷ []) H F
      → Follows th G H (all T (abstracted_formula (next G) F))
  generalised {H} {T} unused p =
      found (p.used, p.within, by_rule rule.all_i (derivation.more p.derived derivation.none) (step.all_i (within_without (T ∷ []) p.used H p.within unused)))

  pub grown : {H : Hypotheses} {F : Formula} (Ts : List Ty) → IsContext th Ts → Follows th G H F → Follows th (G ++ Ts) H F
  grown Ts closed p = record {
    used = p.used;
    within = p.within;
    derived = by_rule (rule.grow Ts) (derivation.more p.derived derivation.none)
        (step.grow closed);
  }

  pub named : {H : Hypotheses} {T : Ty} {F Q : Formula} → uses_new G (T ∷ []) Q ≡ false → some_use_new G (T ∷ []) H ≡ false → Follows th G H (some T F)
      → Follows th (G ++ T ∷ []) (instantiated_formula (free (next G) ∷ []) F ∷ H) Q → Follows th G H Q
  named {H} {T} {F} {Q} goal_without unused p q =
      let B = instantiated_formula (free (next G) ∷ []) F in
      let w = left_within q.used H B q.within in
      found (
        p.used ∪ q.used ∖ B,
        each_joined (λ R. IsAmong R H) p.used (q.used ∖ B) p.within w,
        by_rule rule.ex_e (derivation.more p.derived (derivation.more q.derived derivation.none))
            (step.ex_e {F = F} {F' = B} refl goal_without (within_without (T ∷ []) (q.used ∖ B) H w unused)),
      )

  -- all hypotheses are taken in
  weakened : Hypotheses → Hypotheses → Hypotheses
  weakened K [] = K
  weakened K (F ∷ H) = weakened (added K F) H

  all_weakened : (K H : Hypotheses) (F : Formula) → Each (IsFormula th G) H → Derives th (G │ K ⊢ F) → Derives th (G │ weakened K H ⊢ F)
  unfolding weakened
  all_weakened K [] F wf d = d
  all_weakened K (Q ∷ H) F wf d = all_weakened (added K Q) H F wf.1 (by_rule (rule.weak Q) (derivation.more d derivation.none) (step.weak wf.0))

  weakened_within : (K H B : Hypotheses) → AreWithin K B → AreWithin H B → AreWithin (weakened K H) B
  unfolding weakened
  weakened_within K [] B k h = k
  weakened_within K (Q ∷ H) B k h = weakened_within (added K Q) H B (each_added (λ R. IsAmong R B) K Q k h.0) h.1

  weakened_all : (P : Formula → Type 0) (K H : Hypotheses) → Each P (weakened K H) → Each P K × Each P H
  unfolding weakened
  weakened_all P K [] e = (e, tt)
  weakened_all P K (Q ∷ H) e = let r = weakened_all P (added K Q) H e in let a = of_added P K Q r.0 in (a.0, (a.1, r.1))

  themselves : (H : Hypotheses) → AreWithin H H
  themselves H = each_among (λ Q. IsAmong Q H) H (λ Q i. i)

  pub theorem_of : {H : Hypotheses} {F : Formula} → Each (IsFormula th G) H → Follows th G H F → IsTheorem th G H F
  theorem_of {H} {F} wf p =
      let L = weakened p.used H in
      let same : AreSame H L = record {
        into = λ Q i. among_each (λ R. IsAmong R L) H Q (weakened_all (λ R. IsAmong R L) p.used H (themselves L)).1 i;
        back = λ Q i. among_each (λ R. IsAmong R H) L Q (weakened_within p.used H H p.within (themselves H)) i;
      } in
      (L, same, all_weakened p.used H F wf p.derived)

pub following_is_theorem : FollowingIsTheorem
following_is_theorem th G H F = (
  λ p. (
    each_among (IsFormula th G) H (λ Q i. among_each (IsFormula th G) p.0 Q (formed th p.2).each (p.1.into Q i)),
    record { used = p.0; within = each_among (λ Q. IsAmong Q H) p.0 (λ Q i. p.1.back Q i); derived = p.2 },
  ),
  λ p. theorem_of th G p.0 p.1,
)

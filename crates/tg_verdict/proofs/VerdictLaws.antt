-- Verdicts, one class after another.
use Rattle.std.proofs.Common.{ℕ, zero, suc, ◌≡◌, ◌+◌, ◌++◌, List, [], ◌∷◌, length, map, take, Option, Some, Result, Ok, Err, IfOk, refl, sym, ap, subst, arith, add-one}
use Rattle.std.specs.Prelude.{slice_get}
use Rattle.tg_hyps.specs.Hypotheses.{Class, seen}
use Rattle.tg_model.specs.Filling.{HaveVariables, IsMatch}
use Rattle.tg_model.specs.Value.{Value}
use Rattle.tg_term.specs.Classes.{inputs_of}
use Rattle.tg_types.specs.Types.{ty}
use Rattle.tg_types.specs.declared.types.Ty.{Ty}
use Rattle.tg_model.specs.Theory.{Theory}
use Rattle.tg_term.specs.declared.classes.Class as code
use Rattle.tg_term.specs.declared.classes.Test.{Test}
use Rattle.tg_term.specs.declared.classes.Outcome.{Outcome}
use Rattle.tg_types.specs.declared.verdicts.Verdict.{Verdict}
use Rattle.tg_verdict.specs.Places.{test_of, outcome_of}
use Rattle.tg_verdict.specs.Verdicts.{IsVerdict, AreVerdicts, IsAnswered, verdict_matched}

module _ (th : Theory) (ts : List Test) (os : List Outcome) where
  more_from : (n : ℕ) (cs : List code.Class) (i : ℕ) (c : code.Class) (vs : List Verdict) (v : Verdict) → slice_get cs i ≡ Some c
      → AreVerdicts th ts os n (map seen (take i cs)) vs → IsVerdict th (seen c) (test_of ts (n + i)) (outcome_of os (n + i)) v
      → AreVerdicts th ts os n (map seen (take (suc i) cs)) (vs ++ v ∷ [])
  more_from n [] i c vs v e h w = absurd cc
  more_from n (d ∷ cs) zero c [] v e h w =
      let p : c ≡ d = cc e in
      let z : n + 0 ≡ n = omega arith in (
        subst (λ k. IsVerdict th (seen d) (test_of ts k) (outcome_of os k) v) z
            (subst (λ x. IsVerdict th (seen x) (test_of ts (n + 0)) (outcome_of os (n + 0)) v) p w),
        tt,
      )
  more_from n (d ∷ cs) zero c (u ∷ vs) v e h w = absurd h
  more_from n (d ∷ cs) (suc i) c [] v e h w = absurd h
  more_from n (d ∷ cs) (suc i) c (u ∷ vs) v e h w =
      let z : n + suc i ≡ suc n + i = omega arith in
      (h.0, more_from (suc n) cs i c vs v e h.1 (subst (λ k. IsVerdict th (seen c) (test_of ts k) (outcome_of os k) v) z w))

  pub verdict_next : (cs : List code.Class) (i number : ℕ) (c : code.Class) (t : Option Test) (o : Option Outcome) (vs ws : List Verdict) (v : Verdict)
      → slice_get cs i ≡ Some c → AreVerdicts th ts os 1 (map seen (take i cs)) vs → number ≡ i + 1 → t ≡ test_of ts number → o ≡ outcome_of os number
      → IsVerdict th (seen c) t o v → ws ≡ vs ++ v ∷ [] → AreVerdicts th ts os 1 (map seen (take (i + 1) cs)) ws
  verdict_next cs i number c t o vs ws v e h m f g w p =
      let z : number ≡ 1 + i = omega (arith, m) in
      subst (λ k. AreVerdicts th ts os 1 (map seen (take k cs)) ws) (sym (add-one i))
      (subst (λ l. AreVerdicts th ts os 1 (map seen (take (suc i) cs)) l) (sym p)
      (more_from 1 cs i c vs v e h
      (subst (λ k. IsVerdict th (seen c) (test_of ts k) (outcome_of os k) v) z
      (subst (λ x. IsVerdict th (seen c) x (outcome_of os number) v) f (subst (λ y. IsVerdict th (seen c) t y v) g w)))))

-- so many variables
count : (ts : List Ty) → length (map ty ts) ≡ length ts
count [] = refl
count (t ∷ ts) = ap suc (count ts)

pub mapped_ok : {A E : Type 0} (P Q : A → Type 0) (r : Result A E) → ((a : A) → P a → Q a) → IfOk r P → IfOk r Q
mapped_ok P Q (Ok a) f h = f a h
mapped_ok P Q (Err e) f h = tt

-- by the values at which the class has the datum, or that there are none
pub answered_by : (th : Theory) (c : code.Class) (datum : List Value) (a : Value) (o : Option (List Value)) (v : Verdict)
    → (HaveVariables (length c.pattern.vars) (inputs_of c.pattern) → IsMatch (length c.pattern.vars) (inputs_of c.pattern) datum o)
    → v ≡ verdict_matched th c.checks a o → IsAnswered th (seen c) datum (Some a) v
answered_by th c datum a o v h e have =
    let n = count c.pattern.vars in
    (o, subst (λ k. IsMatch k (inputs_of c.pattern) datum o) (sym n) (h (subst (λ k. HaveVariables k (inputs_of c.pattern)) n have)), e)

pub ruleset judging = (verdict_next)

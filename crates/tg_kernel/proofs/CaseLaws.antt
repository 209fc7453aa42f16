-- Cases, one after another.
use Rattle.std.proofs.Common.{ℕ, zero, suc, ◌≡◌, ◌+◌, ◌<◌, ◌&&◌, Bool, true, false, List, [], ◌∷◌, ◌++◌, map, length, drop, take, Some, None, refl, sym, ◌∙◌, ap, arith}
use Rattle.std.specs.Prelude.{slice_get}
use Rattle.std.proofs.lemmas.List.{length-map}
use Rattle.tg_model.specs.Tree.{Tree, free}
use Rattle.tg_model.specs.Types.{Ty}
use Rattle.tg_model.specs.Formula.{Formula, Sequent}
use Rattle.tg_model.specs.Accepted.{variables_from}
use Rattle.tg_types.specs.declared.types.Ty as declared
use Rattle.tg_types.specs.Types.{ty}
use Rattle.tg_kernel.specs.declared.sequents.Sequent as declared_sequent
use Rattle.tg_kernel.specs.Sequents.{sequent}
use Rattle.tg_calculus.specs.Sequent.{Context, Hypotheses, ◌∪◌, ◌∖◌, next}
use Rattle.tg_calculus.specs.Cases.{own_equation, collected}
use Rattle.tg_calculus.specs.Draft.{fits, all_fit}

variable_past : (n i m : ℕ) → m ≡ n + i → variables_from n i ++ free m ∷ [] ≡ variables_from n (suc i)
variable_past n zero m e = ap (λ k. free k ∷ []) (e ∙ (let z : n + 0 ≡ n = omega arith in z))
variable_past n (suc i) m e = ap (λ ts. free n ∷ ts) (variable_past (suc n) i m (e ∙ (let z : n + suc i ≡ suc n + i = omega arith in z)))

pub next_variable : (n i m : ℕ) → m ≡ n + i → variables_from n i ++ free m ∷ [] ≡ variables_from n (i + 1)
next_variable n i m e = variable_past n i m e ∙ ap (variables_from n) (let z : suc i ≡ i + 1 = omega arith in z)

pub ruleset numbering = (next_variable)

pub types_count : (ts : List declared.Ty) → length ts ≡ length (map ty ts)
types_count ts = sym (length-map ts ty)

pub ruleset counting = (types_count)

and_false : (b c : Bool) → false ≡ c → false ≡ b && c
and_false true c e = e
and_false false c e = refl

module _ (G : Context) (n : ℕ) (Q : Formula) where
  abbrev Cases : Type 0
  Cases = List (List declared.Ty)

  abbrev Premises : Type 0
  Premises = List declared_sequent.Sequent

  abbrev pub Fit : ℕ → Cases → Premises → Bool
  Fit c cases ps = all_fit G n Q c (map (map ty) cases) (map sequent ps)

  pub uneven : (c : ℕ) (cases : Cases) (ps : Premises) → ¬ (length cases ≡ length ps) → false ≡ Fit c cases ps
  uneven c [] [] h = absurd (h refl)
  uneven c [] (p ∷ ps) h = refl
  uneven c (Ts ∷ cases) [] h = refl
  uneven c (Ts ∷ cases) (p ∷ ps) h = and_false (fits G n Q c (map ty Ts) (sequent p)) (Fit (suc c) cases ps) (uneven (suc c) cases ps (λ e. h (ap suc e)))

  fit_at : (c i : ℕ) (cases : Cases) (ps : Premises) (Ts : List declared.Ty) (p : declared_sequent.Sequent) → slice_get cases i ≡ Some Ts → slice_get ps i ≡ Some p
      → Fit c (drop i cases) (drop i ps) ≡ (fits G n Q c (map ty Ts) (sequent p) && Fit (suc c) (drop (suc i) cases) (drop (suc i) ps))
  fit_at c i [] ps Ts p e f = cc e
  fit_at c i (Us ∷ cases) [] Ts p e f = cc f
  fit_at c zero (Us ∷ cases) (q ∷ ps) Ts p e f =
      let a : Us ≡ Ts = cc e in let b : q ≡ p = cc f in
      λ j. fits G n Q c (map ty (a j)) (sequent (b j)) && Fit (suc c) cases ps
  fit_at c (suc i) (Us ∷ cases) (q ∷ ps) Ts p e f = fit_at c i cases ps Ts p e f

  module _ (first i c : ℕ) (cases : Cases) (ps : Premises) (Ts : List declared.Ty) (p : declared_sequent.Sequent) where
    pub unfit : Fit (first + i) (drop i cases) (drop i ps) ≡ Fit first cases ps → c ≡ first + i → slice_get cases i ≡ Some Ts → slice_get ps i ≡ Some p
        → false ≡ fits G n Q c (map ty Ts) (sequent p) → false ≡ Fit first cases ps
    unfit v m e f h =
        ap (λ b. b && Fit (suc (first + i)) (drop (suc i) cases) (drop (suc i) ps)) (h ∙ ap (λ k. fits G n Q k (map ty Ts) (sequent p)) m)
        ∙ sym (fit_at (first + i) i cases ps Ts p e f) ∙ v

    pub fit_more : Fit (first + i) (drop i cases) (drop i ps) ≡ Fit first cases ps → c ≡ first + i → slice_get cases i ≡ Some Ts → slice_get ps i ≡ Some p
        → true ≡ fits G n Q c (map ty Ts) (sequent p) → Fit (first + (i + 1)) (drop (i + 1) cases) (drop (i + 1) ps) ≡ Fit first cases ps
    fit_more v m e f h =
        let k : first + (i + 1) ≡ suc (first + i) = omega arith in
        let l : i + 1 ≡ suc i = omega arith in
        (λ j. Fit (k j) (drop (l j) cases) (drop (l j) ps))
        ∙ ap (λ b. b && Fit (suc (first + i)) (drop (suc i) cases) (drop (suc i) ps)) (h ∙ ap (λ k. fits G n Q k (map ty Ts) (sequent p)) m)
        ∙ sym (fit_at (first + i) i cases ps Ts p e f) ∙ v

pub ruleset fitting = (uneven)

module _ (G : Context) (n : ℕ) where
  abbrev pub All : Hypotheses → ℕ → List (List declared.Ty) → List declared_sequent.Sequent → Hypotheses
  All H c cases ps = collected H G n c (map (map ty) cases) (map sequent ps)

  all_at : (H : Hypotheses) (c i : ℕ) (cases : List (List declared.Ty)) (ps : List declared_sequent.Sequent) (Ts : List declared.Ty) (p : declared_sequent.Sequent)
      → slice_get cases i ≡ Some Ts → slice_get ps i ≡ Some p
      → All H c (drop i cases) (drop i ps) ≡ All (H ∪ p.hyps ∖ own_equation G n c (map ty Ts)) (suc c) (drop (suc i) cases) (drop (suc i) ps)
  all_at H c i [] ps Ts p e f = cc e
  all_at H c i (Us ∷ cases) [] Ts p e f = cc f
  all_at H c zero (Us ∷ cases) (q ∷ ps) Ts p e f =
      let a : Us ≡ Ts = cc e in let b : q ≡ p = cc f in
      λ j. All (H ∪ (b j).hyps ∖ own_equation G n c (map ty (a j))) (suc c) cases ps
  all_at H c (suc i) (Us ∷ cases) (q ∷ ps) Ts p e f = all_at H c i cases ps Ts p e f

  pub all_more : (H K W : Hypotheses) (first i c : ℕ) (cases : List (List declared.Ty)) (ps : List declared_sequent.Sequent) (Ts : List declared.Ty) (p : declared_sequent.Sequent)
      → All H (first + i) (drop i cases) (drop i ps) ≡ W → c ≡ first + i → slice_get cases i ≡ Some Ts → slice_get ps i ≡ Some p
      → K ≡ H ∪ p.hyps ∖ own_equation G n c (map ty Ts) → All K (first + (i + 1)) (drop (i + 1) cases) (drop (i + 1) ps) ≡ W
  all_more H K W first i c cases ps Ts p v m e f h =
      let k : first + (i + 1) ≡ suc (first + i) = omega arith in
      let l : i + 1 ≡ suc i = omega arith in
      (λ j. All (h j) (k j) (drop (l j) cases) (drop (l j) ps))
      ∙ (λ j. All (H ∪ p.hyps ∖ own_equation G n (m j) (map ty Ts)) (suc (first + i)) (drop (suc i) cases) (drop (suc i) ps))
      ∙ sym (all_at H (first + i) i cases ps Ts p e f) ∙ v

  none_left : (H : Hypotheses) (c i : ℕ) (cases : List (List declared.Ty)) (ps : List declared_sequent.Sequent) → slice_get cases i ≡ None
      → All H c (drop i cases) ps ≡ H
  none_left H c zero [] ps e = refl
  none_left H c (suc i) [] ps e = refl
  none_left H c zero (Us ∷ cases) ps e = cc e
  none_left H c (suc i) (Us ∷ cases) ps e = none_left H c i cases ps e

  pub all_taken : (H W : Hypotheses) (first i : ℕ) (cases : List (List declared.Ty)) (ps : List declared_sequent.Sequent) → slice_get cases i ≡ None
      → All H (first + i) (drop i cases) (drop i ps) ≡ W → H ≡ W
  all_taken H W first i cases ps e v = sym (none_left H (first + i) i cases (drop i ps) e) ∙ v

  all_none : (H : Hypotheses) (c : ℕ) (cases : List (List declared.Ty)) → All H c cases [] ≡ H
  all_none H c [] = refl
  all_none H c (Ts ∷ cases) = refl

  pub all_end : (H W : Hypotheses) (c i : ℕ) (cases : List (List declared.Ty)) (ps : List declared_sequent.Sequent) → drop i ps ≡ []
      → All H c (drop i cases) (drop i ps) ≡ W → H ≡ W
  all_end H W c i cases ps e v = sym (all_none H c (drop i cases)) ∙ ap (All H c (drop i cases)) (sym e) ∙ v

pub ruleset collecting = (all_more, all_taken)

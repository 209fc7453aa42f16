-- Lists of hypotheses, step by step.
use Rattle.std.proofs.Common.{ℕ, ◌≡◌, ◌+◌, ◌||◌, Bool, true, false, List, [], ◌∷◌, ◌++◌, drop, Some, refl, sym, ◌∙◌, ap, append_assoc, add-one, if◌then◌else◌}
use Rattle.std.specs.Prelude.{slice_get}
use Rattle.tg_model.specs.Formula.{Formula}
use Rattle.tg_model.specs.Equality.{same_formula}
use Rattle.tg_term.proofs.PartLaws.{drop_at}
use Rattle.tg_calculus.specs.Sequent.{Hypotheses, has, ◌∖◌}

-- what isn't there isn't taken away
pub none_taken : (H : Hypotheses) (F : Formula) → has H F ≡ false → H ≡ H ∖ F
none_taken [] F e = refl
none_taken (G ∷ H) F e = by (same_formula G F) (none_taken H F) e
  where
    by : (b : Bool) → (has H F ≡ false → H ≡ H ∖ F) → (b || has H F) ≡ false → G ∷ H ≡ (if b then H ∖ F else G ∷ (H ∖ F))
    by true h k = cc k
    by false h k = ap (λ (K : Hypotheses). G ∷ K) (h k)

pub ruleset absent = (none_taken)

pub next_hypothesis : (H : Hypotheses) (i : ℕ) (F : Formula) → slice_get H i ≡ Some F → drop i H ≡ F ∷ drop (i + 1) H
next_hypothesis H i F e = drop_at H i F e ∙ ap (λ n. F ∷ drop n H) (sym (add-one i))

pub next_left : (H : Hypotheses) (i : ℕ) (G F : Formula) → slice_get H i ≡ Some G → same_formula G F ≡ false
    → drop i H ∖ F ≡ G ∷ (drop (i + 1) H ∖ F)
next_left H i G F e p =
    ap (λ (K : Hypotheses). K ∖ F) (next_hypothesis H i G e) ∙ ap (λ (b : Bool). if b then drop (i + 1) H ∖ F else G ∷ (drop (i + 1) H ∖ F)) p

pub next_taken : (H : Hypotheses) (i : ℕ) (G F : Formula) → slice_get H i ≡ Some G → same_formula G F ≡ true
    → drop i H ∖ F ≡ drop (i + 1) H ∖ F
next_taken H i G F e p =
    ap (λ (K : Hypotheses). K ∖ F) (next_hypothesis H i G e) ∙ ap (λ (b : Bool). if b then drop (i + 1) H ∖ F else G ∷ (drop (i + 1) H ∖ F)) p

pub ruleset leaving = (next_left, next_taken)

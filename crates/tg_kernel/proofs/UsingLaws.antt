-- New variables, one after another.
use Rattle.std.proofs.Common.{ℕ, zero, suc, ◌≡◌, ◌+◌, ◌<◌, ◌||◌, Bool, true, false, List, [], ◌∷◌, map, length, drop, refl, sym, ◌∙◌, ap, arith}
use Rattle.tg_model.specs.Formula.{Formula}
use Rattle.tg_model.specs.Uses.{uses_in_formula}
use Rattle.tg_types.specs.declared.types.Ty as declared
use Rattle.tg_types.specs.Types.{ty}
use Rattle.tg_calculus.specs.Sequent.{uses_from}

at_next : (n i : ℕ) (Ts : List declared.Ty) (F : Formula) → i < length Ts
    → uses_from n (map ty (drop i Ts)) F ≡ (uses_in_formula n F || uses_from (suc n) (map ty (drop (suc i) Ts)) F)
at_next n i [] F h = absurd (omega (arith, h))
at_next n zero (T ∷ Ts) F h = refl
at_next n (suc i) (T ∷ Ts) F h = at_next n i Ts F (omega (arith, h))

module _ (first i number : ℕ) (Ts : List declared.Ty) (F : Formula) where
  pub found_new : uses_from (first + i) (map ty (drop i Ts)) F ≡ uses_from first (map ty Ts) F → i < length Ts → number ≡ first + i
      → uses_in_formula number F ≡ true → true ≡ uses_from first (map ty Ts) F
  found_new v h n u =
      ap (λ b. b || uses_from (suc (first + i)) (map ty (drop (suc i) Ts)) F) (sym u ∙ ap (λ m. uses_in_formula m F) n)
      ∙ sym (at_next (first + i) i Ts F h) ∙ v

  pub past_new : uses_from (first + i) (map ty (drop i Ts)) F ≡ uses_from first (map ty Ts) F → i < length Ts → number ≡ first + i
      → uses_in_formula number F ≡ false → uses_from (first + (i + 1)) (map ty (drop (i + 1) Ts)) F ≡ uses_from first (map ty Ts) F
  past_new v h n u =
      let m : first + (i + 1) ≡ suc (first + i) = omega arith in
      let k : i + 1 ≡ suc i = omega arith in
      (λ j. uses_from (m j) (map ty (drop (k j) Ts)) F)
      ∙ ap (λ b. b || uses_from (suc (first + i)) (map ty (drop (suc i) Ts)) F) (sym u ∙ ap (λ m. uses_in_formula m F) n)
      ∙ sym (at_next (first + i) i Ts F h) ∙ v

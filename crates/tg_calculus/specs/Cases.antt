-- A case distinction on a variable: a premise for each constructor of the datatype, in order, where the constructor's arguments are
-- new variables.
use Rattle.std.specs.Prelude.{ℕ, suc, false, ◌≡◌, List, [], ◌∷◌, ◌++◌, length}
use Rattle.tg_model.specs.Tree.{free, con, trees}
use Rattle.tg_model.specs.Types.{Ty}
use Rattle.tg_model.specs.Formula.{Formula, Sequent}
use Rattle.tg_model.specs.Accepted.{variables_from}
use Rattle.tg_calculus.specs.Sequent.{Context, Hypotheses, equation, ◌∪◌, ◌∖◌, next, uses_new, some_use_new}

-- `?n` is constructor `c` of its new variables, which have the types `Ts`
abbrev pub own_equation : Context → ℕ → ℕ → List Ty → Formula
own_equation G n c Ts = equation (free n) (con c (trees (variables_from (next G) (length Ts))))

pub record IsCase (G : Context) (n : ℕ) (Q : Formula) (c : ℕ) (Ts : List Ty) (p : Sequent) : Type 0 where
  pub context : p.vars ≡ G ++ Ts
  pub goal : p.goal ≡ Q
  -- neither the goal nor a hypothesis other than the own equation has a new variable
  pub goal_without : uses_new G Ts Q ≡ false
  pub others_without : some_use_new G Ts (p.hypotheses ∖ own_equation G n c Ts) ≡ false

-- the constructors are those from number `c` on, with the types of their arguments
abbrev pub AreCases : Context → ℕ → Formula → ℕ → List (List Ty) → List Sequent → Type 0
AreCases G n Q c [] [] = Unit {0}
AreCases G n Q c (Ts ∷ rest) (p ∷ ps) = IsCase G n Q c Ts p × AreCases G n Q (suc c) rest ps
AreCases G n Q c _ _ = ⊥

-- the hypotheses `H`, then those of each premise without its own equation
abbrev pub collected : Hypotheses → Context → ℕ → ℕ → List (List Ty) → List Sequent → Hypotheses
collected H G n c (Ts ∷ rest) (p ∷ ps) = collected (H ∪ p.hypotheses ∖ own_equation G n c Ts) G n (suc c) rest ps
collected H G n c _ _ = H

-- Theorems: of their hypotheses only the set counts.
use Rattle.tg_model.specs.Formula.{Formula}
use Rattle.tg_model.specs.Theory.{Theory}
use Rattle.tg_model.specs.Accepted.{IsAmong}
use Rattle.tg_calculus.specs.Sequent.{Context, Hypotheses, ◌│◌⊢◌, Each}
use Rattle.tg_calculus.specs.Derivation.{Derives}

-- the same set
pub record AreSame (H K : Hypotheses) : Type 0 where
  pub into : (F : Formula) → IsAmong F H → IsAmong F K
  pub back : (F : Formula) → IsAmong F K → IsAmong F H

abbrev pub IsTheorem : Theory → Context → Hypotheses → Formula → Type 0
IsTheorem th G H F = (K : Hypotheses) × AreSame H K × Derives th (G │ K ⊢ F)

-- each is among the others
abbrev pub AreWithin : Hypotheses → Hypotheses → Type 0
AreWithin K H = Each (λ F. IsAmong F H) K

-- some of the hypotheses are enough
pub record Follows (th : Theory) (G : Context) (H : Hypotheses) (F : Formula) : Type 0 where
  pub used : Hypotheses
  pub within : AreWithin used H
  pub derived : Derives th (G │ used ⊢ F)

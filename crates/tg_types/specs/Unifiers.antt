-- Unifiers of two types, and the most general one.
use Rattle.std.specs.Prelude.{◌≡◌, ◌↔◌}
use Rattle.tg_model.specs.Types.{Ty}
use Rattle.tg_types.specs.Substitutions.{Assignment, at, Substitution, given, Extends, IsWhole}

-- the assignment gives both types one type
abbrev pub Unifies : Assignment → Ty → Ty → Type 0
Unifies θ a b = at θ a ≡ at θ b

-- The new substitution is itself a unifier of the pair that extends the old one, and every such unifier extends it.
pub record IsMostGeneral (old : Substitution) (a b : Ty) (new : Substitution) : Type 0 where
  pub whole : IsWhole new
  pub extends : Extends (given new) old
  pub unifies : Unifies (given new) a b
  pub general : (θ : Assignment) → Extends θ new ↔ (Extends θ old × Unifies θ a b)

abbrev pub HasNoUnifier : Substitution → Ty → Ty → Type 0
HasNoUnifier s a b = (θ : Assignment) → Extends θ s → ¬ (Unifies θ a b)

-- What uniting two nodes promises.
use Rattle.std.specs.Prelude.{ℕ, ◌≡◌, ◌↔◌, Bool as Truth, true, false, List, length}
use Rattle.tg_types.specs.Substitutions.{Assignment}
use Rattle.tg_shared_types.specs.declared.nodes.Node.{Node}
use Rattle.tg_shared_types.specs.Nodes.{Fits}

-- the two nodes united: an assignment fits the new table exactly where it fits the old one and gives both nodes one type
pub record IsUnion (old : List Node) (left right : ℕ) (new : List Node) : Type 0 where
  pub long : length new ≡ length old
  pub same : (ρ : Assignment) → Fits ρ new ↔ (Fits ρ old × (ρ left ≡ ρ right))

abbrev pub Unites : Truth → List Node → ℕ → ℕ → List Node → Type 0
Unites true old left right new = IsUnion old left right new
Unites false old left right new = (ρ : Assignment) → Fits ρ old → ¬ (ρ left ≡ ρ right)

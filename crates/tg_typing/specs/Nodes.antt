-- What is promised of nodes for types that are to be found, and of nodes for types that are given.
use Rattle.std.specs.Prelude.{ℕ, ◌≡◌, ◌<◌, List, map, length}
use Rattle.tg_model.specs.Types.{Ty, Tys}
use Rattle.tg_types.specs.Substitutions.{Assignment}
use Rattle.tg_shared_types.specs.declared.nodes.Node.{Node}
use Rattle.tg_shared_types.specs.Nodes.{types_of, Fits, AreBelow}
use Rattle.tg_shared_types.specs.Growth.{Grows}
use Rattle.tg_typing.specs.Growing.{Grown}

-- `n` open nodes, whose types are read
abbrev pub AreOpened : List Node → List Node → List ℕ → ℕ → Type 0
AreOpened old new ks n = AreBelow (length new) ks × Grown old new (List Ty) (λ ρ. map ρ ks) (λ ρ ts. length ts ≡ n)

-- the node has the type, as it stands
pub record Stands (old : List Node) (t : Ty) (new : List Node) (node : ℕ) : Type 0 where
  pub grows : Grows old new
  pub inside : node < length new
  pub reads : (ρ : Assignment) → Fits ρ new → ρ node ≡ t

pub record AllStand (old : List Node) (ts : Tys) (new : List Node) (nodes : List ℕ) : Type 0 where
  pub grows : Grows old new
  pub inside : AreBelow (length new) nodes
  pub reads : (ρ : Assignment) → Fits ρ new → types_of ρ nodes ≡ ts

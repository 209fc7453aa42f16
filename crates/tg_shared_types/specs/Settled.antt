-- How many assignments fit a table.
use Rattle.std.specs.Prelude.{ℕ, ◌≡◌, ◌<◌, List, length}
use Rattle.tg_types.specs.Substitutions.{Assignment}
use Rattle.tg_shared_types.specs.declared.nodes.Node.{Node}
use Rattle.tg_shared_types.specs.declared.settling.Solutions.{Solutions}
use Rattle.tg_shared_types.specs.declared.settling.Solutions.TheVariants.{Zero, One, Several}
use Rattle.tg_shared_types.specs.Nodes.{Fits}

-- an assignment fits, and each that fits gives the nodes the same types
pub record HasOne (ns : List Node) : Type 0 where
  pub types : Assignment
  pub fits : Fits types ns
  pub only : (ρ : Assignment) → Fits ρ ns → (i : ℕ) → i < length ns → ρ i ≡ types i

-- two assignments fit that give some node two types
pub record HasSeveral (ns : List Node) : Type 0 where
  pub types : Assignment
  pub others : Assignment
  pub fits : Fits types ns
  pub others_fit : Fits others ns
  pub node : ℕ
  pub inside : node < length ns
  pub differ : ¬ (types node ≡ others node)

abbrev pub HasNone : List Node → Type 0
HasNone ns = (ρ : Assignment) → ¬ (Fits ρ ns)

abbrev pub Settles : List Node → Solutions → Type 0
Settles ns Zero = HasNone ns
Settles ns One = HasOne ns
Settles ns Several = HasSeveral ns

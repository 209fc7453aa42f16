-- Tables that grow, and declared types planted in them.
use Rattle.std.specs.Prelude.{ℕ, ◌≡◌, ◌<◌, ◌≤◌, List, length}
use Rattle.tg_model.specs.Types as types
use Rattle.tg_model.specs.Types.{Ty, Tys, nat, bool, parameter, meta, applied, elements}
use Rattle.tg_model.specs.Theory.{instance, instances}
use Rattle.tg_types.specs.Substitutions.{Assignment}
use Rattle.tg_shared_types.specs.declared.nodes.Node.{Node}
use Rattle.tg_shared_types.specs.Nodes.{types_of, Fits, AreBelow}

-- an assignment that fits the table and gives the first nodes the same types
pub record Extended (n : ℕ) (ρ : Assignment) (ns : List Node) : Type 0 where
  pub types : Assignment
  pub fits : Fits types ns
  pub same : (i : ℕ) → i < n → types i ≡ ρ i

-- The new table asks nothing more of the old nodes, and their types settle those of the new ones.
pub record Grows (old new : List Node) : Type 0 where
  pub longer : length old ≤ length new
  pub older : (ρ : Assignment) → Fits ρ new → Fits ρ old
  pub extends : (ρ : Assignment) → Fits ρ old → Extended (length old) ρ new
  pub determined : (ρ φ : Assignment) → Fits ρ new → Fits φ new → ((i : ℕ) → i < length old → ρ i ≡ φ i) →
      (i : ℕ) → i < length new → ρ i ≡ φ i

-- a type without open types, as those of declarations are
abbrev mutual
  pub IsDeclared : Ty → Type 0
  IsDeclared nat = Unit {0}
  IsDeclared bool = Unit {0}
  IsDeclared (parameter n) = Unit {0}
  IsDeclared (meta n) = ⊥
  IsDeclared (applied d ts) = AreDeclared ts

  pub AreDeclared : Tys → Type 0
  AreDeclared types.none = Unit {0}
  AreDeclared (types.more t ts) = IsDeclared t × AreDeclared ts

-- the node has the declared type, in which the parameters are the types of the nodes given
pub record Plants (old : List Node) (given : List ℕ) (t : Ty) (new : List Node) (node : ℕ) : Type 0 where
  pub grows : Grows old new
  pub inside : node < length new
  pub reads : (ρ : Assignment) → Fits ρ new → ρ node ≡ instance (elements (types_of ρ given)) t

pub record PlantsAll (old : List Node) (given : List ℕ) (ts : Tys) (new : List Node) (nodes : List ℕ) : Type 0 where
  pub grows : Grows old new
  pub inside : AreBelow (length new) nodes
  pub reads : (ρ : Assignment) → Fits ρ new → types_of ρ nodes ≡ instances (elements (types_of ρ given)) ts

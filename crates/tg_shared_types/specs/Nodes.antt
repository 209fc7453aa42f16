-- Tables of nodes and the assignments that fit them.
use Rattle.std.specs.Prelude.{ℕ, ◌≡◌, ◌<◌, ◌↔◌, List, [], ◌∷◌, length}
use Rattle.std.proofs.Math.ListN.{get_or}
use Rattle.tg_model.specs.Types.{Tys, nat, bool, parameter, applied, none, more}
use Rattle.tg_types.specs.Substitutions.{Assignment}
use Rattle.tg_shared_types.specs.declared.nodes.Node.{Node}
use Rattle.tg_shared_types.specs.declared.nodes.Node.TheVariants.{Open, Link, Nat, Bool, Param, App}

-- the types of nodes
abbrev pub types_of : Assignment → List ℕ → Tys
types_of ρ [] = none
types_of ρ (k ∷ ks) = more (ρ k) (types_of ρ ks)

-- what a node says of its type
abbrev pub Says : Assignment → ℕ → Node → Type 0
Says ρ i Open = Unit {0}
Says ρ i (Link k) = ρ i ≡ ρ k
Says ρ i Nat = ρ i ≡ nat
Says ρ i Bool = ρ i ≡ bool
Says ρ i (Param n) = ρ i ≡ parameter n
Says ρ i (App d ks) = ρ i ≡ applied d (types_of ρ ks)

abbrev pub node_at : List Node → ℕ → Node
node_at ns i = get_or ns i Open

-- each node has the type that the table says
pub record Fits (ρ : Assignment) (ns : List Node) : Type 0 where
  pub at : (i : ℕ) → i < length ns → Says ρ i (node_at ns i)

abbrev pub AreBelow : ℕ → List ℕ → Type 0
AreBelow n [] = Unit {0}
AreBelow n (k ∷ ks) = (k < n) × AreBelow n ks

-- the node at place `i` of a table of `n` nodes names nodes of the table, and as a link an earlier one
abbrev pub Names : ℕ → ℕ → Node → Type 0
Names n i (Link k) = k < i
Names n i (App d ks) = AreBelow n ks
Names n i node = Unit {0}

pub record IsNodeTable (ns : List Node) : Type 0 where
  pub at : (i : ℕ) → i < length ns → Names (length ns) i (node_at ns i)

abbrev pub IsRoot : Node → Type 0
IsRoot (Link k) = ⊥
IsRoot node = Unit {0}

-- the same assignments fit both tables
pub record SameFits (old new : List Node) : Type 0 where
  pub table : IsNodeTable new
  pub long : length new ≡ length old
  pub same : (ρ : Assignment) → Fits ρ new ↔ Fits ρ old

-- one type for both nodes in each assignment that fits
abbrev pub HasTypeOf : List Node → ℕ → ℕ → Type 0
HasTypeOf ns i j = (ρ : Assignment) → Fits ρ ns → ρ i ≡ ρ j

abbrev pub KeepsRoots : List Node → List Node → Type 0
KeepsRoots old new = (i : ℕ) → IsRoot (node_at old i) → IsRoot (node_at new i)

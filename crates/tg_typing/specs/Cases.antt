-- The branches of a `case`, and nodes for the types of their variables.
use Rattle.std.specs.Prelude.{ℕ, ◌≡◌, ◌<◌, ◌++◌, Bool as Truth, true, false, List, map, length, Option, Some, None}
use Rattle.tg_model.specs.Types.{Ty}
use Rattle.tg_model.specs.Theory.{Theory}
use Rattle.tg_model.specs.TermTyping.{IsDatatype, datatype_at}
use Rattle.tg_types.specs.Substitutions.{Assignment}
use Rattle.tg_shared_types.specs.declared.nodes.Node.{Node}
use Rattle.tg_shared_types.specs.Nodes.{Fits, AreBelow}
use Rattle.tg_shared_types.specs.Growth.{Grows}
use Rattle.tg_accept.specs.Resolved.{Head}
use Rattle.tg_typing.specs.Growing.{Grown}
use Rattle.tg_accept.specs.ResolvedTyping.{head_at}

-- nodes for the types of the variables of a branch of datatype `n` at the types of the nodes `us`
pub record HeadNodes (th : Theory) (old new : List Node) (n : ℕ) (us : List ℕ) (head : Head) (ks : List ℕ) : Type 0 where
  pub grows : Grows old new
  pub inside : AreBelow (length new) ks
  pub reads : (ρ : Assignment) → Fits ρ new → head_at th (map ρ us) head ≡ Some (n, map ρ ks)

-- none where the branch belongs to another datatype
abbrev pub PlantsHead : Theory → List Node → List Node → ℕ → List ℕ → Head → Option (List ℕ) → Type 0
PlantsHead th old new n us head (Some ks) = HeadNodes th old new n us head ks
PlantsHead th old new n us head None = (ρ : Assignment) (ts : List Ty) → ¬ (head_at th (map ρ us) head ≡ Some (n, ts))

-- open nodes for what the datatype is taken at, and a node of that type
pub record CaseNodes (th : Theory) (n : ℕ) (old new : List Node) (us : List ℕ) (whole : ℕ) : Type 0 where
  pub grown : Grown old new (List Ty) (λ ρ. map ρ us) (λ ρ ts. IsDatatype th n ts)
  pub below : AreBelow (length new) us
  pub inside : whole < length new
  pub reads : (ρ : Assignment) → Fits ρ new → ρ whole ≡ datatype_at n (map ρ us)

abbrev pub OpensCase : Theory → ℕ → List Node → List Node → Option (List ℕ × ℕ) → Type 0
OpensCase th n old new (Some x) = CaseNodes th n old new x.0 x.1
OpensCase th n old new None = (ts : List Ty) → ¬ (IsDatatype th n ts)

-- the nodes of the variables of a branch, added to `locs`; or no such variables have the types that a branch has to have
abbrev pub BindsBranch : Theory → List Node → List Node → ℕ → List ℕ → Head → List (List ℕ) → List ℕ → List ℕ → Truth → Type 0
BindsBranch th old new n us head xs locs more true = (ks : List ℕ) × HeadNodes th old new n us head ks × (length ks ≡ length xs) × (more ≡ locs ++ ks)
BindsBranch th old new n us head xs locs more false = (ρ : Assignment) (ts : List Ty) → Fits ρ old → head_at th (map ρ us) head ≡ Some (n, ts) → ¬ (length xs ≡ length ts)

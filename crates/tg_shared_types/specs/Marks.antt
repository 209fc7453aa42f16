-- The loop of settling: nodes whose types are found, and how much is still to be visited.
use Rattle.std.specs.Prelude.{ℕ, suc, ◌+◌, ◌≡◌, ◌<◌, Bool, true, false, List, [], ◌∷◌, length, if◌then◌else◌}
use Rattle.std.proofs.Math.ListN.{get_or}
use Rattle.tg_types.specs.Substitutions.{Assignment}
use Rattle.tg_shared_types.specs.declared.nodes.Node.{Node}
use Rattle.tg_shared_types.specs.declared.nodes.Node.TheVariants.{Open, Link, App}
use Rattle.tg_shared_types.specs.Nodes.{Says, Fits, node_at}

abbrev pub is_marked : List Bool → ℕ → Bool
is_marked ys k = get_or ys k false

abbrev pub all_marked : List Bool → List ℕ → Bool
all_marked ys [] = true
all_marked ys (k ∷ ks) = if is_marked ys k then all_marked ys ks else false

-- the parts of the node are marked
abbrev pub is_ready : List Bool → Node → Bool
is_ready ys (Link k) = is_marked ys k
is_ready ys (App d ks) = all_marked ys ks
is_ready ys node = true

-- types for the marked nodes that the table allows, with `c` for the open ones
pub record Built (ns : List Node) (ys : List Bool) (c : Assignment) : Type 0 where
  pub types : Assignment
  pub says : (i : ℕ) → i < length ns → is_marked ys i ≡ true → Says types i (node_at ns i)
  pub free : (i : ℕ) → i < length ns → is_marked ys i ≡ true → node_at ns i ≡ Open → types i ≡ c i

abbrev pub AgreeAtOpen : List Node → List Bool → Assignment → Assignment → Type 0
AgreeAtOpen ns ys ρ φ = (i : ℕ) → i < length ns → is_marked ys i ≡ true → node_at ns i ≡ Open → ρ i ≡ φ i

-- The marks of a table: parts of marked nodes are marked, and the types of the marked nodes are found, freely at the open ones and in
-- one way at the others.
pub record AreMarks (ns : List Node) (ys : List Bool) : Type 0 where
  pub long : length ys ≡ length ns
  pub closed : (i : ℕ) → i < length ns → is_marked ys i ≡ true → is_ready ys (node_at ns i) ≡ true
  pub built : (c : Assignment) → Built ns ys c
  pub alike : (ρ φ : Assignment) → Fits ρ ns → Fits φ ns → AgreeAtOpen ns ys ρ φ →
      (i : ℕ) → i < length ns → is_marked ys i ≡ true → ρ i ≡ φ i

-- each node without a mark has a part without one
abbrev pub IsStuck : List Node → List Bool → Type 0
IsStuck ns ys = (i : ℕ) → i < length ns → is_marked ys i ≡ false → is_ready ys (node_at ns i) ≡ false

abbrev pub unmarked : List Bool → ℕ
unmarked [] = 0
unmarked (y ∷ ys) = if y then unmarked ys else suc (unmarked ys)

-- one more where something was done
abbrev pub with_turn : Bool → ℕ → ℕ
with_turn b n = if b then suc n else n

-- the nodes that a node names
abbrev pub parts_of : Node → List ℕ
parts_of (Link k) = k ∷ []
parts_of (App d ks) = ks
parts_of node = []

-- how much the nodes that were not visited can still add to a list of visits
abbrev pub visits : List Node → List Bool → ℕ
visits [] ys = 0
visits (n ∷ ns) [] = 0
visits (n ∷ ns) (y ∷ ys) = (if y then 0 else suc (suc (length (parts_of n)))) + visits ns ys

-- The loop of uniting: pairs of nodes that are still to have one type.
use Rattle.std.specs.Prelude.{ℕ, suc, ◌+◌, ◌≡◌, ◌<◌, ◌↔◌, Bool as Truth, true, false, List, [], ◌∷◌, length, nat_eq, if◌then◌else◌}
use Rattle.tg_types.specs.Substitutions.{Assignment}
use Rattle.tg_shared_types.specs.declared.nodes.Node.{Node}
use Rattle.tg_shared_types.specs.declared.nodes.Node.TheVariants.{Open, Link, Nat, Bool, Param, App}
use Rattle.tg_shared_types.specs.Nodes.{Fits, IsNodeTable}

abbrev pub AreSame : Assignment → List (ℕ × ℕ) → Type 0
AreSame ρ [] = Unit {0}
AreSame ρ (p ∷ ps) = (ρ p.0 ≡ ρ p.1) × AreSame ρ ps

abbrev pub PairsBelow : ℕ → List (ℕ × ℕ) → Type 0
PairsBelow n [] = Unit {0}
PairsBelow n (p ∷ ps) = (p.0 < n) × (p.1 < n) × PairsBelow n ps

abbrev pub paired : List ℕ → List ℕ → List (ℕ × ℕ)
paired (k ∷ ks) (l ∷ ls) = (k, l) ∷ paired ks ls
paired ks ls = []

-- What two nodes that are to have one type say together: what the first says, what the second says, that their parts
-- are to have one type each, or what no type meets.
pub data Meeting : Type 0 where
  first : Meeting
  second : Meeting
  parts : (ks ls : List ℕ) → Meeting
  never : Meeting

abbrev pub meet_applied : ℕ → List ℕ → ℕ → List ℕ → Meeting
meet_applied d ks e ls = if nat_eq d e then (if nat_eq (length ks) (length ls) then parts ks ls else never) else never

abbrev pub meet : Node → Node → Meeting
meet Open b = second
meet a Open = first
meet Nat Nat = first
meet Bool Bool = first
meet (Param m) (Param n) = if nat_eq m n then first else never
meet (App d ks) (App e ls) = meet_applied d ks e ls
meet a b = never

-- The assignments that fit the new table and give each pair of the new list one type are those that fit the old table and do so
-- for the old list.
pub record Carries (old : List Node) (asked : List (ℕ × ℕ)) (new : List Node) (left : List (ℕ × ℕ)) : Type 0 where
  pub table : IsNodeTable new
  pub long : length new ≡ length old
  pub below : PairsBelow (length old) left
  pub same : (ρ : Assignment) → (Fits ρ new × AreSame ρ left) ↔ (Fits ρ old × AreSame ρ asked)

-- no assignment that fits the table gives each pair one type
abbrev pub NoneFits : List Node → List (ℕ × ℕ) → Type 0
NoneFits ns ps = (ρ : Assignment) → Fits ρ ns → ¬ (AreSame ρ ps)

abbrev pub CarriesOr : Truth → List Node → List (ℕ × ℕ) → List Node → List (ℕ × ℕ) → Type 0
CarriesOr true old asked new left = Carries old asked new left
CarriesOr false old asked new left = NoneFits old asked

-- how much may still be united at a node, and in a table
abbrev pub weight : Node → ℕ
weight (Link k) = 0
weight (App d ks) = suc (length ks)
weight node = 1

abbrev pub weights : List Node → ℕ
weights [] = 0
weights (n ∷ ns) = weight n + weights ns

-- The place of a fault: the longest front of some tokens with which a text begins. What was read before it can be completed,
-- and with the next token no more. `R` says which tokens are a text, and with which value.
use Rattle.std.specs.Prelude.{◌≡◌, ◌≤◌, List, [], ◌∷◌, ◌++◌, length}

module _ {T V : Type 0} (R : V → List T → Type 0) where
  -- some text begins with these tokens
  abbrev pub Begins : List T → Type 0
  Begins front = (rest : List T) × (v : V) × R v (front ++ rest)

  -- The fault is at the first token of what is left; where nothing is left, at the end.
  abbrev pub IsWrongAt : List T → List T → Type 0
  IsWrongAt front [] = (v : V) → R v front → ⊥
  IsWrongAt front (t ∷ left) = Begins (front ++ t ∷ []) → ⊥

  -- the tokens have a fault behind this front, before what is left
  abbrev pub IsFault : List T → List T → List T → Type 0
  IsFault ts front left = (ts ≡ front ++ left) × Begins front × IsWrongAt front left

  -- of the fronts of these tokens with which a text begins this is the longest
  abbrev pub IsLongestFront : List T → List T → Type 0
  IsLongestFront ts front = Begins front × ((other rest : List T) → ts ≡ other ++ rest → Begins other → length other ≤ length front)

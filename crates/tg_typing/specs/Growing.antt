-- What a step of typing does to a table: the table grows, asks something of the old nodes' types, and something is read off it.
use Rattle.std.specs.Prelude.{ℕ, ◌≡◌, ◌<◌, ◌≤◌, Bool, true, false, List, length}
use Rattle.tg_types.specs.Substitutions.{Assignment}
use Rattle.tg_shared_types.specs.declared.nodes.Node.{Node}
use Rattle.tg_shared_types.specs.Nodes.{Fits}

-- two assignments give the first nodes the same types
pub record Agree (n : ℕ) (ρ φ : Assignment) : Type 0 where
  pub at : (i : ℕ) → i < n → ρ i ≡ φ i

-- an assignment that fits, gives the first nodes the same types, and is read as `a`
pub record ReadAs (n : ℕ) (ρ : Assignment) (new : List Node) (A : Type 0) (read : Assignment → A) (a : A) : Type 0 where
  pub types : Assignment
  pub fits : Fits types new
  pub same : Agree n types ρ
  pub reads : read types ≡ a

-- What the new table has read off it is asked for, each thing that is asked for can be read off it, and what is read settles the
-- types of the new nodes.
pub record Grown (old new : List Node) (A : Type 0) (read : Assignment → A) (Asked : Assignment → A → Type 0) : Type 0 where
  pub longer : length old ≤ length new
  pub older : (ρ : Assignment) → Fits ρ new → Fits ρ old
  pub sound : (ρ : Assignment) → Fits ρ new → Asked ρ (read ρ)
  pub complete : (ρ : Assignment) (a : A) → Fits ρ old → Asked ρ a → ReadAs (length old) ρ new A read a
  pub determined : (ρ φ : Assignment) → Fits ρ new → Fits φ new → Agree (length old) ρ φ → read ρ ≡ read φ → Agree (length new) ρ φ
  pub local : (ρ φ : Assignment) → Agree (length new) ρ φ → read ρ ≡ read φ

pub record Reading (old new : List Node) (A : Type 0) (Asked : Assignment → A → Type 0) : Type 0 where
  pub read : Assignment → A
  pub grown : Grown old new A read Asked

-- nothing is what is asked for
abbrev pub IsImpossible : List Node → (A : Type 0) → (Assignment → A → Type 0) → Type 0
IsImpossible old A Asked = (ρ : Assignment) (a : A) → Fits ρ old → ¬ (Asked ρ a)

-- a step that is done, or that shows that nothing is what is asked for
abbrev pub Outcome : List Node → List Node → (A : Type 0) → (Assignment → A → Type 0) → Bool → Type 0
Outcome old new A Asked true = Reading old new A Asked
Outcome old new A Asked false = IsImpossible old A Asked

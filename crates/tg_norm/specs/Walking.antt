-- What the code's walk comes to, where it takes a run from one state to another.
use Rattle.std.specs.Prelude.{ℕ, ◌≡◌, ◌<◌, ◌≤◌, ◌+◌, List, [], ◌∷◌, ◌++◌, drop, Option, Some, None, unwrap_or}
use Rattle.tg_model.specs.Tree.{Tree}
use Rattle.tg_model.specs.Theory.{Theory}
use Rattle.tg_term.specs.Measures.{nodes}
use Rattle.tg_rows.specs.Rows.{first}
use Rattle.tg_norm.specs.declared.walking.Run.{Run}
use Rattle.tg_norm.specs.declared.walking.Turn.{Turn}
use Rattle.tg_norm.specs.declared.walking.Turn.TheVariants.{Ended, Stepped}
use Rattle.tg_norm.specs.Normal.{Walked, Parted, Norm, AllNorm, IsPassed, step_of, most_nodes}

-- one call is taken
pub record IsCounted (before after : Run) : Type 0 where
  pub left : before.left ≡ after.left + 1
  pub steps : after.steps.items ≡ before.steps.items

module _ (th : Theory) (levels : ℕ) where
  -- the walk over `t` has the form, is on no more than so many levels, and takes its calls and steps from the one state to the other
  pub record IsWalked (before after : Run) (t form : Tree) : Type 0 where
    pub walk : Walked
    pub is : Norm th t walk
    pub same : form ≡ walk.form
    pub calls : before.left ≡ walk.cost + after.left
    pub high : walk.rise < levels
    pub steps : after.steps.items ≡ before.steps.items ++ walk.steps

  -- so do the walks over arguments
  pub record AreWalked (before after : Run) (ts forms : List Tree) : Type 0 where
    pub walks : Parted
    pub are : AllNorm th ts walks
    pub same : forms ≡ walks.forms
    pub calls : before.left ≡ walks.cost + after.left
    pub high : walks.rise ≤ levels
    pub steps : after.steps.items ≡ before.steps.items ++ walks.steps

  -- the walks over arguments give nothing, or pass a bound
  pub record ArePassed (left : ℕ) (ts : List Tree) : Type 0 where
    pub none : (p : Parted) → AllNorm th ts p → p.cost ≤ left → ¬ (p.rise ≤ levels)

  -- the walk over `t` goes on as that over `u`
  pub record IsReached (before after : Run) (t u : Tree) : Type 0 where
    pub on : (end : Run) (form : Tree) → IsWalked after end u form → IsWalked before end t form
    pub back : IsPassed th after.left levels u → IsPassed th before.left levels t

  abbrev pub IsTurn : Run → Run → Tree → Turn → Type 0
  IsTurn before after t (Ended form) = IsWalked before after t (unwrap_or form t)
  IsTurn before after t (Stepped u) = IsReached before after t u

  -- the walks over the first `done` of the arguments give these forms, and the others are to be done
  pub record AreReached (before after : Run) (ts : List Tree) (done : ℕ) (forms : List Tree) : Type 0 where
    pub on : (end : Run) (more : List Tree) → AreWalked after end (drop done ts) more → AreWalked before end ts (forms ++ more)
    pub back : ArePassed after.left (drop done ts) → ArePassed before.left ts

-- no list of forms is made while all of them are the terms themselves
abbrev pub or_else : List Tree → List Tree → List Tree
or_else [] ts = ts
or_else (u ∷ us) ts = u ∷ us

-- what the first schema makes of a term, as the next step, or nothing where none applies
pub record IsRooted (th : Theory) (before after : Run) (t : Tree) (s : ℕ) (u : Tree) : Type 0 where
  pub first : first th t ≡ Some (s, u)
  pub small : nodes u ≤ most_nodes
  pub left : after.left ≡ before.left
  pub steps : after.steps.items ≡ before.steps.items ++ step_of s t u ∷ []

pub record IsUnrooted (th : Theory) (before after : Run) (t : Tree) : Type 0 where
  pub first : first th t ≡ None
  pub small : nodes t ≤ most_nodes
  pub same : after ≡ before

abbrev pub IsAtRoot : Theory → Run → Run → Tree → Option Tree → Type 0
IsAtRoot th before after t None = IsUnrooted th before after t
IsAtRoot th before after t (Some u) = (s : ℕ) × IsRooted th before after t s u

-- what the first schema makes of a term, or else the term itself, is too large
pub record IsTooLarge (th : Theory) (t : Tree) : Type 0 where
  pub none : first th t ≡ None → ¬ (nodes t ≤ most_nodes)
  pub some : (s : ℕ) (u : Tree) → first th t ≡ Some (s, u) → ¬ (nodes u ≤ most_nodes)

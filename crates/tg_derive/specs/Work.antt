-- The work on the split trees, in its order, with what is left of its three limits: the calls that normalise, the inner nodes, and the
-- clauses of leaves. A list of goals is worked on from the first, and a goal with a condition is replaced by its two children, that in
-- which the condition is met before the other.
use Rattle.std.specs.Prelude.{Bool, true, false, ◌≡◌, ◌<◌, ◌&&◌, ◌-◌, nat_le, List, [], ◌∷◌, ◌++◌, length, Some, None}
use Rattle.tg_model.specs.Tree.{Tree}
use Rattle.tg_model.specs.Theory.{Theory}
use Rattle.tg_norm.specs.Normal.{Walked, Norm, IsWithin, IsPassed, most_levels}
use Rattle.tg_norm.specs.Halves.{condition_of}
use Rattle.tg_clause.specs.Clauses.{Clause, clauses_of, fits}
use Rattle.tg_derive.specs.declared.budgets.Left.{Left}
use Rattle.tg_derive.specs.Goals.{Goal, child, under}

-- what stops the work
pub data Limit : Type 0 where
  patterns : Limit
  splits : Limit
  steps : Limit
  clauses : Limit

-- the work is done, with what it found and what is left, or it passes a limit
pub data Worked (A : Type 0) : Type 0 where
  done : (found : List A) (left : Left) → Worked A
  passed : (limit : Limit) → Worked A

-- what was found before it
abbrev pub before : {A : Type 0} → List A → Worked A → Worked A
before found (done more left) = done (found ++ more) left
before found (passed limit) = passed limit

-- none of the lists that the clauses of a term are made of is too long, and they aren't more than are left
abbrev pub has_room : Left → Tree → Bool
has_room left t = fits t && nat_le (length (clauses_of t)) left.clauses

-- what is left after a walk, an inner node, and the clauses of a term
abbrev pub after_walk : Left → Walked → Left
after_walk left w = record { steps = left.steps - w.cost; splits = left.splits; clauses = left.clauses }

abbrev pub after_split : Left → Left
after_split left = record { steps = left.steps; splits = left.splits - 1; clauses = left.clauses }

abbrev pub after_clauses : Left → Tree → Left
after_clauses left t = record { steps = left.steps; splits = left.splits; clauses = left.clauses - length (clauses_of t) }

-- a leaf's term under its conditions
abbrev pub leaf : Goal → Walked → Tree
leaf g w = under g.conditions w.form

-- the walk to the normal form of the goal's term, within what is left
pub record IsFormed (th : Theory) (left : Left) (g : Goal) (w : Walked) : Type 0 where
  pub walk : Norm th g.term w
  pub within : IsWithin left.steps most_levels w

pub data Work (th : Theory) : Left → List Goal → Worked Clause → Type 0 where
  at_end : {left : Left} {o : Worked Clause} → o ≡ done [] left → Work th left [] o
  without_form : {left : Left} {g : Goal} {gs : List Goal} {o : Worked Clause} → IsPassed th left.steps most_levels g.term → o ≡ passed steps
      → Work th left (g ∷ gs) o
  without_split : {left : Left} {g : Goal} {gs : List Goal} {o : Worked Clause} (w : Walked) (q : Tree) → IsFormed th left g w
      → condition_of w.form ≡ Some q → left.splits ≡ 0 → o ≡ passed splits → Work th left (g ∷ gs) o
  at_split : {left : Left} {g : Goal} {gs : List Goal} {o : Worked Clause} (w : Walked) (q : Tree) → IsFormed th left g w
      → condition_of w.form ≡ Some q → 0 < left.splits
      → Work th (after_split (after_walk left w)) (child g w.form q true ∷ child g w.form q false ∷ gs) o → Work th left (g ∷ gs) o
  without_clauses : {left : Left} {g : Goal} {gs : List Goal} {o : Worked Clause} (w : Walked) → IsFormed th left g w
      → condition_of w.form ≡ None → has_room left (leaf g w) ≡ false → o ≡ passed clauses → Work th left (g ∷ gs) o
  at_leaf : {left : Left} {g : Goal} {gs : List Goal} {o : Worked Clause} (w : Walked) (rest : Worked Clause) → IsFormed th left g w
      → condition_of w.form ≡ None → has_room left (leaf g w) ≡ true → Work th (after_clauses (after_walk left w) (leaf g w)) gs rest
      → o ≡ before (clauses_of (leaf g w)) rest → Work th left (g ∷ gs) o

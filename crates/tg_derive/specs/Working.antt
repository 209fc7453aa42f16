-- What the code's work comes to, where it takes goals from one state to another.
use Rattle.std.specs.Prelude.{List, [], ◌∷◌, ◌++◌, ◌≡◌, ◌<◌, true, false}
use Rattle.tg_model.specs.Tree.{Tree}
use Rattle.tg_model.specs.Theory.{Theory}
use Rattle.tg_norm.specs.Normal.{Walked, Norm, IsWithin, IsPassed, most_levels}
use Rattle.tg_clause.specs.Clauses.{Clause, clauses_of}
use Rattle.tg_hyps.specs.Hypotheses.{Class}
use Rattle.tg_split.specs.Patterns.{Pattern}
use Rattle.tg_derive.specs.declared.budgets.Left.{Left}
use Rattle.tg_derive.specs.declared.errors.LimitErr.{LimitErr}
use Rattle.tg_derive.specs.declared.errors.LimitErr.TheVariants.{Splits, Steps, Clauses, Memory}
use Rattle.tg_derive.specs.Goals.{Goal, start}
use Rattle.tg_derive.specs.Work.{Worked, done, before, Work, has_room, after_walk, after_split, after_clauses}
use Rattle.tg_derive.specs.Classes.{WorkAt, classes_of}

-- the specification at a pattern, as a goal
abbrev pub first_goal : Tree → Goal
first_goal t = record { conditions = []; term = t }

-- the normal form of a term, whose calls are taken from what is left
pub record IsFormTaken (th : Theory) (old new : Left) (t form : Tree) : Type 0 where
  pub walk : Walked
  pub is : Norm th t walk
  pub within : IsWithin old.steps most_levels walk
  pub same : form ≡ walk.form
  pub left : new ≡ after_walk old walk

abbrev pub IsFormless : Theory → Left → Tree → LimitErr → Type 0
IsFormless th left t Steps = IsPassed th left.steps most_levels t
IsFormless th left t Memory = Unit {0}
IsFormless th left t e = ⊥

-- an inner node is taken from what is left
pub record IsSplitTaken (old new : Left) : Type 0 where
  pub some : 0 < old.splits
  pub left : new ≡ after_split old

abbrev pub IsSplitless : Left → LimitErr → Type 0
IsSplitless left Splits = left.splits ≡ 0
IsSplitless left Memory = Unit {0}
IsSplitless left e = ⊥

-- the clauses of a leaf's term stand behind those found, and are taken from what is left
pub record IsLeafTaken (old new : Left) (t : Tree) (cs ds : List Clause) : Type 0 where
  pub room : has_room old t ≡ true
  pub left : new ≡ after_clauses old t
  pub found : ds ≡ cs ++ clauses_of t

abbrev pub IsOverfull : Left → Tree → LimitErr → Type 0
IsOverfull left t Clauses = has_room left t ≡ false
IsOverfull left t Memory = Unit {0}
IsOverfull left t e = ⊥

module _ (th : Theory) where
  -- the work on these goals finds some clauses, and then goes on as that on others
  pub record IsReached (from : Left) (gs : List Goal) (found : List Clause) (to : Left) (rest : List Goal) : Type 0 where
    pub on : (o : Worked Clause) → Work th to rest o → Work th from gs (before found o)

  -- the same with the clauses found so far before and after it
  pub record IsTurn (from : Left) (gs : List Goal) (cs : List Clause) (to : Left) (rest : List Goal) (ds : List Clause) : Type 0 where
    pub more : List Clause
    pub found : ds ≡ cs ++ more
    pub reached : IsReached from gs more to rest

  -- the work on these patterns finds the classes, and then goes on as that on others
  pub record AreReached (from : Left) (ps : List Pattern) (found : List Class) (to : Left) (rest : List Pattern) : Type 0 where
    pub on : (o : Worked Class) → WorkAt th to rest o → WorkAt th from ps (before found o)

  -- the classes of a pattern stand behind those found
  pub record AreAdded (from to : Left) (p : Pattern) (cs ds : List Class) : Type 0 where
    pub clauses : List Clause
    pub work : Work th from (start th p ∷ []) (done clauses to)
    pub found : ds ≡ cs ++ classes_of p clauses

-- The goals of a split tree. (Brucker and Wolff's splitting of a specification at its conditions.)
use Rattle.std.specs.Prelude.{Bool, List, [], ◌∷◌, ◌++◌, if◌then◌else◌}
use Rattle.tg_model.specs.Tree.{Tree, op, two, implication, elements}
use Rattle.tg_model.specs.Theory.{Theory}
use Rattle.tg_model.specs.Walk.{substituted}
use Rattle.tg_rows.specs.Rows.{denied}
use Rattle.tg_norm.specs.Halves.{replaced}
use Rattle.tg_split.specs.Patterns.{Pattern}

-- the conditions that were taken on the way to it, the first first, and its term before it is normalised
pub record Goal : Type 0 where
  pub conditions : List Tree
  pub term : Tree

-- the specification at a pattern
abbrev pub start : Theory → Pattern → Goal
start th p = record { conditions = []; term = substituted (elements p.terms) th.specification }

-- a condition that is met, or its negation
abbrev pub signed : Bool → Tree → Tree
signed b q = if b then q else denied q

-- what becomes of a goal with the normal form `form` where the condition `q` of it is met, or isn't
abbrev pub child : Goal → Tree → Tree → Bool → Goal
child g form q b = record { conditions = g.conditions ++ signed b q ∷ []; term = replaced q b form }

-- `q1 --> (q2 --> .. (qm --> t))`
abbrev pub under : List Tree → Tree → Tree
under [] t = t
under (q ∷ qs) t = op implication (two q (under qs t))

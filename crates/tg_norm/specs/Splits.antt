-- The leaves of a term: at an outside `if` it is split by the condition that is taken, and the normal forms of both halves are
-- split in turn.
use Rattle.std.specs.Prelude.{true, false, ◌≡◌, List, [], ◌∷◌, ◌++◌, map, Some, None}
use Rattle.tg_model.specs.Tree.{Tree, op, two, implication}
use Rattle.tg_model.specs.Theory.{Theory}
use Rattle.tg_rows.specs.Rows.{denied}
use Rattle.tg_norm.specs.Halves.{condition_of, replaced}
use Rattle.tg_norm.specs.Normal.{Walked, Norm}

-- `q --> t`
abbrev pub implied : Tree → Tree → Tree
implied q t = op implication (two q t)

-- The leaves in order, those where a condition is true before those where it is false, each under the conditions that lead to it.
-- `N t u` says that `u` is the normal form of `t`.
pub data Splits (N : Tree → Tree → Type 0) : Tree → List Tree → Type 0 where
  leaf : {t : Tree} {ls : List Tree} → condition_of t ≡ None → ls ≡ t ∷ [] → Splits N t ls
  inner : {t : Tree} {ls : List Tree} (q u v : Tree) (ms ns : List Tree) → condition_of t ≡ Some q
      → N (replaced q true t) u → N (replaced q false t) v → Splits N u ms → Splits N v ns
      → ls ≡ map (implied q) ms ++ map (implied (denied q)) ns → Splits N t ls

-- the second term is the first one's normal form
abbrev pub IsForm : Theory → Tree → Tree → Type 0
IsForm th t u = (w : Walked) × Norm th t w × (w.form ≡ u)

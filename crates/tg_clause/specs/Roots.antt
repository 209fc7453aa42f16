-- The sides of a term, by how it is taken apart.
use Rattle.std.specs.Prelude.{ℕ, ◌<◌}
use Rattle.tg_model.specs.Tree.{Tree}
use Rattle.tg_term.specs.Measures.{height}
use Rattle.tg_clause.specs.declared.roots.Root.{Root}
use Rattle.tg_clause.specs.declared.roots.Root.TheVariants.{Atom, Truth, Not, And, Or, Implies, Equal}
use Rattle.tg_clause.specs.Clauses.{Sides, sides, turned, of_truth, of_atom, of_conjunction, of_disjunction, of_implication, of_equality}

abbrev pub sides_by : Tree → Root → Sides
sides_by t Atom = of_atom t
sides_by t (Truth b) = of_truth b
sides_by t (Not a) = turned (sides a.now)
sides_by t (And a b) = of_conjunction (sides a.now) (sides b.now)
sides_by t (Or a b) = of_disjunction (sides a.now) (sides b.now)
sides_by t (Implies a b) = of_implication (sides a.now) (sides b.now)
sides_by t (Equal a b) = of_equality (sides a.now) (sides b.now)

-- the parts are lower than this
abbrev pub IsBelow : ℕ → Root → Type 0
IsBelow h Atom = Unit {0}
IsBelow h (Truth b) = Unit {0}
IsBelow h (Not a) = height a.now < h
IsBelow h (And a b) = (height a.now < h) × (height b.now < h)
IsBelow h (Or a b) = (height a.now < h) × (height b.now < h)
IsBelow h (Implies a b) = (height a.now < h) × (height b.now < h)
IsBelow h (Equal a b) = (height a.now < h) × (height b.now < h)

-- What a formula knows of itself: its nodes, its height and its loose bound variables, the terms in it counted in.
use Rattle.std.specs.Prelude.{ℕ, ◌≡◌, ◌≤◌, ◌+◌, ◌-◌, max}
use Rattle.tg_model.specs.Formula.{Formula, atom, both, implies, all, some, thyp, tested, deep}
use Rattle.tg_term.specs.Measures.{nodes, nodes_of, height, heights, loose_range, loose_among, counted, most_height}
use Rattle.tg_term.specs.declared.measuring.Measures.{Measures}

-- a type counts as nothing
abbrev pub formula_nodes : Formula → ℕ
formula_nodes (atom t) = 1 + nodes t
formula_nodes (both f g) = 1 + (formula_nodes f + formula_nodes g)
formula_nodes (implies f g) = 1 + (formula_nodes f + formula_nodes g)
formula_nodes (all t f) = 1 + formula_nodes f
formula_nodes (some t f) = 1 + formula_nodes f
formula_nodes (thyp f) = 1 + formula_nodes f
formula_nodes (tested ts) = 1 + nodes_of ts
formula_nodes (deep k ts) = 1 + nodes_of ts

abbrev pub formula_height : Formula → ℕ
formula_height (atom t) = height t + 1
formula_height (both f g) = max (formula_height f) (formula_height g) + 1
formula_height (implies f g) = max (formula_height f) (formula_height g) + 1
formula_height (all t f) = formula_height f + 1
formula_height (some t f) = formula_height f + 1
formula_height (thyp f) = formula_height f + 1
formula_height (tested ts) = heights ts
formula_height (deep k ts) = heights ts

abbrev pub formula_range : Formula → ℕ
formula_range (atom t) = loose_range t
formula_range (both f g) = max (formula_range f) (formula_range g)
formula_range (implies f g) = max (formula_range f) (formula_range g)
formula_range (all t f) = formula_range f - 1
formula_range (some t f) = formula_range f - 1
formula_range (thyp f) = formula_range f
formula_range (tested ts) = loose_among ts
formula_range (deep k ts) = loose_among ts

abbrev pub formula_measures : Formula → Measures
formula_measures f = record { nodes = counted (formula_nodes f); height = formula_height f; loose_range = formula_range f }

-- what is kept with a formula is what measures it, and the formula isn't too high
pub record IsFormulaKnown (m : Measures) (f : Formula) : Type 0 where
  pub is : m ≡ formula_measures f
  pub bounded : formula_height f ≤ most_height

-- What a term knows of itself: how many nodes its tree has, how high it is, and which of its bound variables are loose.
use Rattle.std.specs.Prelude.{ℕ, ◌≡◌, ◌≤◌, ◌+◌, ◌-◌, max, min}
use Rattle.tg_model.specs.Tree.{Tree, Trees, Arms, bound, free, literal, truth, con, call, put, choice, case, bind, op, none, more, end, arm}
use Rattle.tg_term.specs.declared.measuring.Measures.{Measures}

-- the nodes of the tree; a branch counts as its body, and a variable that is bound counts as nothing
abbrev mutual
  pub nodes : Tree → ℕ
  nodes (bound k) = 1
  nodes (free n) = 1
  nodes (literal n) = 1
  nodes (truth b) = 1
  nodes (con c ts) = 1 + nodes_of ts
  nodes (call f ts) = 1 + nodes_of ts
  nodes (put ts) = 1 + nodes_of ts
  nodes (choice ts) = 1 + nodes_of ts
  nodes (case d t arms) = 1 + (nodes t + nodes_within arms)
  nodes (bind t body) = 1 + (nodes t + nodes body)
  nodes (op o ts) = 1 + nodes_of ts

  pub nodes_of : Trees → ℕ
  nodes_of none = 0
  nodes_of (more t ts) = nodes t + nodes_of ts

  pub nodes_within : Arms → ℕ
  nodes_within end = 0
  nodes_within (arm vars body arms) = nodes body + nodes_within arms

-- the most steps from the root of the tree down to a leaf
abbrev mutual
  pub height : Tree → ℕ
  height (bound k) = 0
  height (free n) = 0
  height (literal n) = 0
  height (truth b) = 0
  height (con c ts) = heights ts
  height (call f ts) = heights ts
  height (put ts) = heights ts
  height (choice ts) = heights ts
  height (case d t arms) = max (height t + 1) (heights_within arms)
  height (bind t body) = max (height t + 1) (height body + 1)
  height (op o ts) = heights ts

  -- one more than the height of the highest, and 0 of none
  pub heights : Trees → ℕ
  heights none = 0
  heights (more t ts) = max (height t + 1) (heights ts)

  pub heights_within : Arms → ℕ
  heights_within end = 0
  heights_within (arm vars body arms) = max (height body + 1) (heights_within arms)

-- one more than the greatest index of a loose bound variable, and 0 where none is loose
abbrev mutual
  pub loose_range : Tree → ℕ
  loose_range (bound k) = k + 1
  loose_range (free n) = 0
  loose_range (literal n) = 0
  loose_range (truth b) = 0
  loose_range (con c ts) = loose_among ts
  loose_range (call f ts) = loose_among ts
  loose_range (put ts) = loose_among ts
  loose_range (choice ts) = loose_among ts
  loose_range (case d t arms) = max (loose_range t) (loose_within arms)
  loose_range (bind t body) = max (loose_range t) (loose_range body - 1)
  loose_range (op o ts) = loose_among ts

  pub loose_among : Trees → ℕ
  loose_among none = 0
  loose_among (more t ts) = max (loose_range t) (loose_among ts)

  pub loose_within : Arms → ℕ
  loose_within end = 0
  loose_within (arm vars body arms) = max (loose_range body - vars) (loose_within arms)

-- a count that stops at 2^64 - 1
abbrev pub counted : ℕ → ℕ
counted n = min n 18446744073709551615

-- no term is higher
abbrev pub most_height : ℕ
most_height = 10000

abbrev pub measures : Tree → Measures
measures t = record { nodes = counted (nodes t); height = height t; loose_range = loose_range t }

-- what is kept with a term is what measures it, and the term isn't too high
pub record IsKnown (m : Measures) (t : Tree) : Type 0 where
  pub is : m ≡ measures t
  pub bounded : height t ≤ most_height

-- the loose range of the root alone
abbrev pub own_range : Tree → ℕ
own_range (bound k) = k + 1
own_range _ = 0

-- the measures of a node above one that binds `vars` variables, and above two
abbrev pub raised : Measures → ℕ → Measures
raised m vars = record { nodes = counted (m.nodes + 1); height = m.height + 1; loose_range = m.loose_range - vars }

abbrev pub joined : Measures → Measures → Measures
joined m n =
    record { nodes = counted (counted (m.nodes + n.nodes) + 1); height = max m.height n.height + 1; loose_range = max m.loose_range n.loose_range }

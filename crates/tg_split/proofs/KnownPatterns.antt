-- Patterns that are known by hand: of lists, of trees `Node tree nat tree | Leaf`, and of pairs.
use Rattle.std.proofs.Common.{ℕ, ◌≡◌, refl, [], ◌∷◌, length}
use Rattle.tg_model.specs.Tree as tree
use Rattle.tg_model.specs.Tree.{Tree, Trees, free, con, one, two, trees}
use Rattle.tg_model.specs.Types.{Ty, nat, bool, parameter, meta, applied, tys}
use Rattle.tg_model.proofs.KnownValues.{sorting, list_of, pair_of}
use Rattle.tg_split.specs.Shapes.{Shape, hole, node, none, more, product, of_type}
use Rattle.tg_split.specs.Patterns.{patterns, patterns_at, to_depth}

abbrev pub tree_type : Ty
tree_type = applied 2 (tys [])

abbrev pub count_at : ℕ → ℕ
count_at k = length (of_type sorting.datatypes k tree_type)

-- one more than the square of the count before: no tree has depth 0
known_counts : (count_at 0 ≡ 0) × (count_at 1 ≡ 1) × (count_at 2 ≡ 2) × (count_at 3 ≡ 5) × (count_at 4 ≡ 26) × (count_at 5 ≡ 677)
known_counts = (refl, refl, refl, refl, refl, refl)

abbrev leaf : Shape
leaf = node 4 none

-- constructors in their order
known_trees : of_type sorting.datatypes 2 tree_type ≡ node 3 (more leaf (more (hole nat) (more leaf none))) ∷ leaf ∷ []
known_trees = refl

-- a natural and a truth value have no depth, and a type that isn't closed has no value
known_holes : (of_type sorting.datatypes 0 nat ≡ hole nat ∷ []) × (of_type sorting.datatypes 3 bool ≡ hole bool ∷ []) × (of_type sorting.datatypes 3 (parameter 1) ≡ [])
    × (of_type sorting.datatypes 3 (meta 1) ≡ []) × (of_type sorting.datatypes 3 (applied 0 (tys [])) ≡ []) × (of_type sorting.datatypes 3 (applied 9 (tys [])) ≡ [])
known_holes = (refl, refl, refl, refl, refl, refl)

-- the first factor is the slowest, and an empty one makes an empty product
known_product : product (hole nat ∷ leaf ∷ []) (none ∷ more leaf none ∷ [])
    ≡ more (hole nat) none ∷ more (hole nat) (more leaf none) ∷ more leaf none ∷ more leaf (more leaf none) ∷ []
known_product = refl

empty_factor : (product [] (none ∷ []) ≡ []) × (product (leaf ∷ leaf ∷ []) [] ≡ [])
empty_factor = (refl, refl)

abbrev nil : Tree
nil = con 1 tree.none

abbrev single : ℕ → Tree
single n = con 2 (two (free n) nil)

-- the last input is the fastest, and its variables are numbered on
known_inputs : patterns_at sorting (to_depth 2 (list_of nat ∷ list_of bool ∷ []))
    ≡ record { terms = two nil nil; variables = [] } ∷ record { terms = two nil (single 1); variables = bool ∷ [] }
    ∷ record { terms = two (single 1) nil; variables = nat ∷ [] } ∷ record { terms = two (single 1) (single 2); variables = nat ∷ bool ∷ [] } ∷ []
known_inputs = refl

-- each input to its own depth, at the arguments of its type
known_depths : patterns_at sorting ((1, list_of nat) ∷ (2, pair_of (list_of nat) bool) ∷ (0, nat) ∷ [])
    ≡ record { terms = trees (nil ∷ con 5 (two nil (free 1)) ∷ free 2 ∷ []); variables = bool ∷ nat ∷ [] } ∷ []
known_depths = refl

-- the program of the theory has one input, a list of naturals
known_theory : patterns sorting 3
    ≡ record { terms = one nil; variables = [] } ∷ record { terms = one (single 1); variables = nat ∷ [] }
    ∷ record { terms = one (con 2 (two (free 1) (single 2))); variables = nat ∷ nat ∷ [] } ∷ []
known_theory = refl

-- to depth 0 only inputs without a datatype have a pattern
known_none : (patterns sorting 0 ≡ []) × (patterns_at sorting (to_depth 0 (nat ∷ bool ∷ []))
    ≡ record { terms = two (free 1) (free 2); variables = nat ∷ bool ∷ [] } ∷ [])
known_none = (refl, refl)

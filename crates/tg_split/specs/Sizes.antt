-- How many shapes there are and how large, up to the limit.
use Rattle.std.specs.Prelude.{ℕ, ◌≡◌, Bool, true, false, ◌||◌, ◌+◌, ◌*◌, max, nat_lt, nat_eq, List, [], ◌∷◌, map, length, if◌then◌else◌}
use Rattle.tg_term.specs.Measures.{nodes_of}
use Rattle.tg_split.specs.Shapes.{Shape, Shapes, hole, node, none, more, of_constructors, of_type}
use Rattle.tg_model.specs.Types.{Ty}
use Rattle.tg_model.specs.Theory.{Datatype, Constructor, instance}
use Rattle.tg_split.specs.Patterns.{Pattern}
use Rattle.tg_split.specs.declared.sizes.Size.{Size}
use Rattle.tg_split.specs.declared.sizes.Size.TheVariants.{Passed, Within}

-- the greatest number, and 0 of no item
abbrev pub most : {A : Type 0} → (A → ℕ) → List A → ℕ
most f [] = 0
most f (x ∷ xs) = max (f x) (most f xs)

-- more than 4,096, or one of more than 100,000 nodes
abbrev pub is_over : ℕ → ℕ → Bool
is_over count nodes = nat_lt 4096 count || nat_lt 100000 nodes

-- the number of the patterns, or 4,097 where they are more than 4,096 or the terms of one have more than 100,000 nodes together
abbrev pub counted : List Pattern → ℕ
counted ps = if is_over (length ps) (most (λ (p : Pattern). nodes_of p.terms) ps) then 4097 else length ps

-- the nodes of a shape's terms
abbrev mutual
  pub nodes : Shape → ℕ
  nodes (hole t) = 1
  nodes (node c ss) = 1 + all_nodes ss

  pub all_nodes : Shapes → ℕ
  all_nodes none = 0
  all_nodes (more s ss) = nodes s + all_nodes ss

abbrev pub sized : ℕ → ℕ → Size
sized count nodes = if is_over count nodes then Passed else Within count nodes

abbrev pub size_of : List Shape → Size
size_of ss = sized (length ss) (most nodes ss)

abbrev pub size_of_lists : List Shapes → Size
size_of_lists sss = sized (length sss) (most all_nodes sss)

abbrev pub count : Size → ℕ
count Passed = 4097
count (Within n x) = n

-- the number of lists of shapes, or 4,097 where the limit is passed
abbrev pub counted_shapes : List Shapes → ℕ
counted_shapes sss = count (size_of_lists sss)

abbrev pub no_shape : Size
no_shape = Within 0 0

abbrev pub is_passed : Size → Bool
is_passed Passed = true
is_passed (Within n x) = false

abbrev pub is_empty : Size → Bool
is_empty Passed = false
is_empty (Within count nodes) = nat_eq count 0

-- of two lists, one after the other
abbrev pub either : Size → Size → Size
either (Within m x) (Within n y) = sized (m + n) (max x y)
either _ _ = Passed

abbrev pub paired : Size → Size → Size
paired (Within m x) (Within n y) = sized (m * n) (x + y)
paired _ _ = Passed

-- of the product of two lists: an empty one makes an empty product, whatever the other is
abbrev pub both : Size → Size → Size
both a b = if is_empty a || is_empty b then no_shape else paired a b

-- of the shapes with a constructor on top
abbrev pub under : Size → Size
under a = both a (Within 1 1)

-- the size of the shapes that constructors make of shapes to depth `k`, whatever their numbers are
abbrev pub AreMade : List Datatype → ℕ → List Ty → List Constructor → Size → Type 0
AreMade ds k us cs size = (c : ℕ) → size ≡ size_of (of_constructors (of_type ds k) c (map (λ (x : Constructor). map (instance us) x.arguments) cs))

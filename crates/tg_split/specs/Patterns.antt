-- The patterns of a theory's inputs: a shape for each input, the variables of all numbered from the left.
use Rattle.std.specs.Prelude.{ℕ, ◌+◌, List, [], ◌∷◌, ◌++◌, map, length}
use Rattle.tg_model.specs.Tree as tree
use Rattle.tg_model.specs.Tree.{Tree, Trees, free, con}
use Rattle.tg_model.specs.Types.{Ty}
use Rattle.tg_model.specs.Theory.{Theory}
use Rattle.tg_split.specs.Shapes.{Shape, Shapes, hole, node, none, more, products, of_type}

-- the types of the holes, from the left
abbrev mutual
  pub holes : Shape → List Ty
  holes (hole t) = t ∷ []
  holes (node c ss) = all_holes ss

  pub all_holes : Shapes → List Ty
  all_holes none = []
  all_holes (more s ss) = holes s ++ all_holes ss

-- the holes as variables, numbered from `n` from the left
abbrev mutual
  pub term_from : ℕ → Shape → Tree
  term_from n (hole t) = free n
  term_from n (node c ss) = con c (terms_from n ss)

  pub terms_from : ℕ → Shapes → Trees
  terms_from n none = tree.none
  terms_from n (more s ss) = tree.more (term_from n s) (terms_from (n + length (holes s)) ss)

-- a term for each input, and the types of the variables, that of `?1` first
pub record Pattern : Type 0 where
  pub terms : Trees
  pub variables : List Ty

abbrev pub pattern_of : Shapes → Pattern
pattern_of ss = record { terms = terms_from 1 ss; variables = all_holes ss }

-- an input's depth and type
abbrev pub Input : Type 0
Input = ℕ × Ty

abbrev pub of_input : Theory → Input → List Shape
of_input th p = of_type th.datatypes p.0 p.1

-- each input to a depth of its own
abbrev pub patterns_at : Theory → List Input → List Pattern
patterns_at th ps = map pattern_of (products (of_input th) ps)

abbrev pub to_depth : ℕ → List Ty → List Input
to_depth k ts = map (λ t. (k, t)) ts

-- the patterns of the theory's inputs to depth `k`
abbrev pub patterns : Theory → ℕ → List Pattern
patterns th k = patterns_at th (to_depth k th.program.inputs)

-- The values that stand where a pattern has its variables, as they are found by one walk over the pattern.
use Rattle.std.specs.Prelude.{ℕ, zero, suc, List, [], ◌∷◌, Option, Some, None, option_map, slice_set}
use Rattle.std.specs.Borrow.{Bor}
use Rattle.tg_model.specs.Tree as tree
use Rattle.tg_model.specs.Tree.{Tree, Trees, free, con}
use Rattle.tg_model.specs.Value as model
use Rattle.tg_model.specs.Value.{made}
use Rattle.tg_term.specs.Values.{value}
use Rattle.tg_term.specs.declared.values.Value.{Value}

abbrev pub held : Option (Bor Value) → Option model.Value
held o = option_map (λ (b : Bor Value). value b.now) o

-- nothing is known of as many variables
abbrev pub unknown : ℕ → List (Option model.Value)
unknown zero = []
unknown (suc n) = None ∷ unknown n

-- what is known of the variable `?n`
abbrev pub noted : List (Option model.Value) → ℕ → model.Value → List (Option model.Value)
noted s zero v = s
noted s (suc n) v = slice_set s n (Some v)

abbrev mutual
  pub collected : Tree → model.Value → List (Option model.Value) → List (Option model.Value)
  collected (free n) v s = noted s n v
  collected (con c ts) (made d vs) s = collected_all ts vs s
  collected t v s = s

  pub collected_all : Trees → model.Values → List (Option model.Value) → List (Option model.Value)
  collected_all (tree.more t ts) (model.more v vs) s = collected_all ts vs (collected t v s)
  collected_all ts vs s = s

-- all values, where each is known
abbrev pub all_of : List (Option model.Value) → Option (List model.Value)
all_of [] = Some []
all_of (None ∷ s) = None
all_of (Some v ∷ s) = option_map (λ vs. v ∷ vs) (all_of s)

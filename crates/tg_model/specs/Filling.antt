-- Patterns, which are terms of constructors and variables, at values of their variables.
use Rattle.std.specs.Prelude.{ℕ, ◌≡◌, ◌≤◌, Bool, true, false, ◌||◌, nat_eq, List, [], ◌∷◌, length, Option, Some, None, unwrap_or}
use Rattle.tg_model.specs.Tree as tree
use Rattle.tg_model.specs.Tree.{Tree, Trees, free, con}
use Rattle.tg_model.specs.Value.{Value, made, values, wrong}
use Rattle.tg_model.specs.Theory.{numbered}

-- the value of a pattern at the values `vs` of its variables, that of `?1` first; any other term has none and gives False
module _ (vs : List Value) where
  abbrev mutual
    pub filled_term : Tree → Value
    filled_term (free n) = unwrap_or (numbered vs n) wrong
    filled_term (con c ts) = made c (values (fill ts))
    filled_term t = wrong

    pub fill : Trees → List Value
    fill tree.none = []
    fill (tree.more t ts) = filled_term t ∷ fill ts

-- `?k` stands in the term below constructors alone
module _ (k : ℕ) where
  abbrev mutual
    pub stands : Tree → Bool
    stands (free n) = nat_eq n k
    stands (con c ts) = stands_among ts
    stands t = false

    pub stands_among : Trees → Bool
    stands_among tree.none = false
    stands_among (tree.more t ts) = stands t || stands_among ts

-- each of the variables `?1` to `?n` stands in some of the terms
abbrev pub HaveVariables : ℕ → Trees → Type 0
HaveVariables n ts = (k : ℕ) → 1 ≤ k → k ≤ n → stands_among k ts ≡ true

-- the values of `n` variables at which the terms are the inputs, or none where there are no such values
abbrev pub IsMatch : ℕ → Trees → List Value → Option (List Value) → Type 0
IsMatch n ts inputs None = (vs : List Value) → length vs ≡ n → ¬ (fill vs ts ≡ inputs)
IsMatch n ts inputs (Some vs) =
    (length vs ≡ n) × (fill vs ts ≡ inputs) × ((ws : List Value) → length ws ≡ n → fill ws ts ≡ inputs → ws ≡ vs)

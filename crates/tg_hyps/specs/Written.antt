-- Values as terms, and the variables of a program's inputs.
use Rattle.std.specs.Prelude.{ℕ, suc, List, [], ◌∷◌}
use Rattle.tg_model.specs.Tree as tree
use Rattle.tg_model.specs.Tree.{Tree, Trees, free, literal, truth, con}
use Rattle.tg_model.specs.Types.{Ty}
use Rattle.tg_model.specs.Value as value
use Rattle.tg_model.specs.Value.{Value, Values, number, boolean, made}

-- the term of literals, truth values and constructors that has this value
abbrev mutual
  pub term_of : Value → Tree
  term_of (number n) = literal n
  term_of (boolean b) = truth b
  term_of (made c vs) = con c (terms_of vs)

  pub terms_of : Values → Trees
  terms_of value.none = tree.none
  terms_of (value.more v vs) = tree.more (term_of v) (terms_of vs)

-- the variable `?n` for the first of the inputs, `?n+1` for the next, and so on
abbrev pub variables_from : ℕ → List Ty → Trees
variables_from n [] = tree.none
variables_from n (t ∷ ts) = tree.more (free n) (variables_from (suc n) ts)

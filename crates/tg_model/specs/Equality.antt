-- Equality of terms, types and formulas, as it is decided: by comparing node by node.
use Rattle.std.specs.Prelude.{ℕ, Bool, true, false, ◌≡◌, ◌↔◌, nat_eq}
use Rattle.std.proofs.Common.{sym, ◌∙◌}
use Rattle.std.proofs.Math.Bool.{Bool-discrete}
use Rattle.std.proofs.lemmas.Bool.{eqb-true, eq-eqb}
use Rattle.tg_model.specs.Tree.{Tree, Trees, operator_discrete, tree_discrete, trees_discrete}
use Rattle.tg_model.specs.Types.{Ty, type_discrete}
use Rattle.tg_model.specs.Formula.{Formula, formula_discrete}

abbrev pub is_yes : {P : Type 0} → Dec P → Bool
is_yes (yes p) = true
is_yes (no n) = false

pub unequal : (m n : ℕ) → nat_eq m n ≡ false → ¬ (m ≡ n)
unequal m n e p = let f : false ≡ true = sym e ∙ eq-eqb m n p in cc

-- of numbers, by a test that computes
abbrev pub number_by : (m n : ℕ) (b : Bool) → nat_eq m n ≡ b → Dec (m ≡ n)
number_by m n true e = yes (eqb-true m n e)
number_by m n false e = no (unequal m n e)

abbrev pub number_decided : Discrete ℕ
number_decided m n = number_by m n (nat_eq m n) (λ i. nat_eq m n)

abbrev pub tree_decided : Discrete Tree
tree_decided = tree_discrete number_decided Bool-discrete (operator_discrete number_decided)

abbrev pub trees_decided : Discrete Trees
trees_decided = trees_discrete number_decided Bool-discrete (operator_discrete number_decided)

abbrev pub type_decided : Discrete Ty
type_decided = type_discrete number_decided

abbrev pub formula_decided : Discrete Formula
formula_decided = formula_discrete tree_decided type_decided trees_decided number_decided

abbrev pub same_tree : Tree → Tree → Bool
same_tree t u = is_yes (tree_decided t u)

abbrev pub same_type : Ty → Ty → Bool
same_type t u = is_yes (type_decided t u)

abbrev pub same_formula : Formula → Formula → Bool
same_formula f g = is_yes (formula_decided f g)

abbrev pub DecidesTrees : Type 0
DecidesTrees = (t u : Tree) → (same_tree t u ≡ true) ↔ (t ≡ u)

abbrev pub DecidesTypes : Type 0
DecidesTypes = (t u : Ty) → (same_type t u ≡ true) ↔ (t ≡ u)

abbrev pub DecidesFormulas : Type 0
DecidesFormulas = (f g : Formula) → (same_formula f g ≡ true) ↔ (f ≡ g)

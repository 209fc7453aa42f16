-- Comparing node by node decides equality.
use Rattle.std.proofs.Common.{◌≡◌, ◌↔◌, true, false, refl, [], ◌∷◌}
use Rattle.tg_model.specs.Tree as tree
use Rattle.tg_model.specs.Tree.{Tree, free, bound, literal, con, op, case, arm, one, two, plus, minus}
use Rattle.tg_model.specs.Types.{nat, bool, parameter, applied, tys}
use Rattle.tg_model.specs.Formula.{atom, all, some, deep}
use Rattle.tg_model.specs.Equality.{is_yes, tree_decided, type_decided, formula_decided, same_tree, same_type, same_formula, DecidesTrees, DecidesTypes, DecidesFormulas}

pub told : {P : Type 0} (d : Dec P) → (is_yes d ≡ true) ↔ P
told (yes p) = (λ e. p, λ q. refl)
told (no n) = (λ e. cc e, λ q. absurd (n q))

pub decides_trees : DecidesTrees
decides_trees t u = told (tree_decided t u)

pub decides_types : DecidesTypes
decides_types t u = told (type_decided t u)

pub decides_formulas : DecidesFormulas
decides_formulas f g = told (formula_decided f g)

-- known by hand
trees_known : (same_tree (op plus (two (free 1) (literal 2))) (op plus (two (free 1) (literal 2))) ≡ true)
    × (same_tree (op plus (two (free 1) (literal 2))) (op plus (two (free 1) (literal 3))) ≡ false)
    × (same_tree (op plus (two (free 1) (literal 2))) (op minus (two (free 1) (literal 2))) ≡ false)
    × (same_tree (free 1) (bound 1) ≡ false)
    × (same_tree (case 0 (free 1) (arm 1 (bound 0) tree.end)) (case 0 (free 1) (arm 2 (bound 0) tree.end)) ≡ false)
trees_known = (refl, refl, refl, refl, refl)

types_known : (same_type (applied 1 (tys (nat ∷ []))) (applied 1 (tys (nat ∷ []))) ≡ true) × (same_type (applied 1 (tys (nat ∷ []))) (applied 1 (tys [])) ≡ false)
    × (same_type (parameter 1) (parameter 2) ≡ false) × (same_type nat bool ≡ false)
types_known = (refl, refl, refl, refl)

formulas_known : (same_formula (all nat (atom (bound 0))) (all nat (atom (bound 0))) ≡ true) × (same_formula (all nat (atom (bound 0))) (some nat (atom (bound 0))) ≡ false)
    × (same_formula (all nat (atom (bound 0))) (all bool (atom (bound 0))) ≡ false) × (same_formula (deep 2 (one (free 1))) (deep 3 (one (free 1))) ≡ false)
formulas_known = (refl, refl, refl, refl)

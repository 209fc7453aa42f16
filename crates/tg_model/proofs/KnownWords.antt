-- What is known by hand of program calls, of terms that are made of constructors and variables, and of numbered lists.
use Rattle.std.proofs.Common.{◌≡◌, true, false, refl, [], ◌∷◌}
use Rattle.tg_model.specs.Tree as tree
use Rattle.tg_model.specs.Tree.{Tree, free, bound, literal, truth, con, call, put, choice, case, bind, op, arm, one, two, trees, equality}
use Rattle.tg_model.specs.Types.{nat, parameter}
use Rattle.tg_model.specs.Formula.{atom, both, all, tested, deep}
use Rattle.tg_model.specs.Calls.{has_call, formula_has_call, EachPut}
use Rattle.tg_model.specs.Made.{IsMade}
use Rattle.tg_model.specs.Accepted.{parameters_from, variables_from}
use Rattle.tg_model.specs.TypeLaws.{AreBranchSizes, branch_sizes}
use Rattle.tg_model.proofs.KnownValues.{sorting, nil, cons, lists}

abbrev asked : Tree
asked = put (one (free 1))

-- a call counts wherever it stands: in an argument, a condition, a scrutinee, a branch, a bound term, the body of a `let`
calls : (has_call asked ≡ true) × (has_call (call 2 (one (free 1))) ≡ false) × (has_call (cons asked nil) ≡ true)
    × (has_call (choice (trees (asked ∷ literal 1 ∷ literal 2 ∷ []))) ≡ true) × (has_call (op equality (two (free 1) asked)) ≡ true)
    × (has_call (case 0 asked (arm 0 (literal 1) tree.end)) ≡ true) × (has_call (case 0 (free 1) (arm 0 (literal 1) (arm 1 asked tree.end))) ≡ true)
    × (has_call (bind asked (bound 0)) ≡ true) × (has_call (bind (free 1) asked) ≡ true) × (has_call (bind (free 1) (bound 0)) ≡ false)
calls = (refl, refl, refl, refl, refl, refl, refl, refl, refl, refl)

formula_calls : (formula_has_call (all nat (both (atom (truth true)) (atom asked))) ≡ true) × (formula_has_call (tested (one asked)) ≡ true)
    × (formula_has_call (deep 2 (one (free 1))) ≡ false)
formula_calls = (refl, refl, refl)

-- each call, and none else, is tested
each_call_tested : EachPut (λ ts. ts ≡ one (free 1)) (op equality (two asked (call 2 (one (free 2)))))
    × (¬ (EachPut (λ ts. ts ≡ one (free 1)) (op equality (two asked (put (one (free 2)))))))
each_call_tested = (((refl, (tt, tt)), ((tt, tt), tt)), λ h. let e = h.1.0.0 in cc)

made_terms : IsMade (cons (free 1) (con 1 tree.none)) × IsMade (truth true) × (¬ (IsMade (literal 1))) × (¬ (IsMade (cons (literal 1) nil)))
    × (¬ (IsMade (bound 0))) × (¬ (IsMade asked)) × (¬ (IsMade (call 1 tree.none)))
made_terms = ((tt, (tt, tt)), tt, (λ h. h), (λ h. h.0), (λ h. h), (λ h. h), λ h. h)

counted : (parameters_from 1 2 ≡ parameter 1 ∷ parameter 2 ∷ []) × (variables_from 1 3 ≡ free 1 ∷ free 2 ∷ free 3 ∷ []) × (variables_from 1 0 ≡ [])
counted = (refl, refl, refl)

-- a `case` on lists binds no variable and then two, one on nat none and then one
sizes : AreBranchSizes sorting 1 (branch_sizes (arm 0 nil (arm 2 (bound 0) tree.end))) × AreBranchSizes sorting 0 (branch_sizes (arm 0 nil (arm 1 (bound 0) tree.end)))
    × (¬ (AreBranchSizes sorting 0 (branch_sizes (arm 1 (bound 0) (arm 0 nil tree.end))))) × (¬ (AreBranchSizes sorting 0 (branch_sizes (arm 0 nil tree.end))))
sizes = ((lists, refl, refl), refl, (λ h. cc h), λ h. cc h)

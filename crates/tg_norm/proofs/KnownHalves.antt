-- Splits that are known by hand.
use Rattle.std.proofs.Common.{◌≡◌, true, false, [], ◌∷◌, Some, None, refl}
use Rattle.tg_model.specs.Tree as tree
use Rattle.tg_model.specs.Tree.{Tree, bound, free, literal, truth, put, choice, case, bind, op, one, two, trees, negation, conjunction}
use Rattle.tg_norm.specs.Halves.{conditions, condition_of, replaced}

abbrev if_ : Tree → Tree → Tree → Tree
if_ c t u = choice (trees (c ∷ t ∷ u ∷ []))

abbrev both : Tree → Tree → Tree
both t u = op conjunction (two t u)

-- `if ?1 then (if ?2 then 1 else 2) else 3` has the conditions `?1` and `?2`, of which the first is taken
first_in_preorder : (conditions (if_ (free 1) (if_ (free 2) (literal 1) (literal 2)) (literal 3)) ≡ free 1 ∷ free 2 ∷ [])
    × (condition_of (if_ (free 1) (if_ (free 2) (literal 1) (literal 2)) (literal 3)) ≡ Some (free 1))
first_in_preorder = (refl, refl)

-- of `if (if ?1 then ?2 else ?3) then 1 else 2` the inner condition is taken, for the outer one has an `if`
inner_first : condition_of (if_ (if_ (free 1) (free 2) (free 3)) (literal 1) (literal 2)) ≡ Some (free 1)
inner_first = refl

-- an `if` in a branch of a `case` isn't outside, one in its scrutinee is
in_branches : (condition_of (case 0 (free 1) (tree.arm 0 (if_ (free 2) (literal 1) (literal 2)) tree.end)) ≡ None)
    × (condition_of (case 0 (if_ (free 2) (literal 1) (literal 2)) (tree.arm 0 (literal 0) tree.end)) ≡ Some (free 2))
in_branches = (refl, refl)

no_choice : condition_of (both (free 1) (op negation (one (free 2)))) ≡ None
no_choice = refl

-- of `if ?1 then put ?1 else ~ ?1`: all three are replaced, and another variable isn't
all_replaced_by_true : replaced (free 1) true (if_ (free 1) (put (one (free 1))) (op negation (one (free 1))))
    ≡ if_ (truth true) (put (one (truth true))) (op negation (one (truth true)))
all_replaced_by_true = refl

others_stay : replaced (free 1) false (both (free 1) (free 2)) ≡ both (truth false) (free 2)
others_stay = refl

-- under a `let` it is replaced, in a branch of a `case` it isn't
under_binders : (replaced (free 1) true (bind (free 1) (both (bound 0) (free 1))) ≡ bind (truth true) (both (bound 0) (truth true)))
    × (replaced (free 1) true (case 1 (free 1) (tree.arm 0 (free 1) tree.end)) ≡ case 1 (truth true) (tree.arm 0 (free 1) tree.end))
under_binders = (refl, refl)

-- Limited values that are known by hand, at the bounds and just past them.
use Rattle.std.proofs.Common.{ℕ, zero, suc, ◌≡◌, true, false, refl, ap, [], ◌∷◌, Some, None}
use Rattle.std.specs.Prelude.{nat_le, if◌then◌else◌}
use Rattle.tg_model.specs.Tree as tree
use Rattle.tg_model.specs.Tree.{Tree, bound, free, literal, truth, con, call, put, choice, case, bind, op, one, two, trees, successor, conjunction, disjunction, implication, equality, less, plus, minus}
use Rattle.tg_model.specs.Value.{Value, number, boolean}
use Rattle.tg_model.proofs.KnownValues.{sorting, nil, cons, numbers}
use Rattle.tg_eval.specs.Limited.{Outcome, value_nodes, small_enough, limited, limited_value}

-- with so many levels and calls, at one variable of value `2`; the program answers the empty list
abbrev of_at : ℕ → ℕ → Tree → Outcome
of_at levels calls t = limited sorting (numbers []) levels calls (number 2 ∷ []) [] t

abbrev last_number : Tree
last_number = literal 18446744073709551615

-- its evaluation passes the bound of numbers
abbrev over : Tree
over = op successor (one last_number)

abbrev over_is_zero : Tree
over_is_zero = op equality (two over (literal 0))

-- a leaf has a level too
levels_count : (of_at 0 0 (free 1) ≡ None) × (of_at 1 0 (free 1) ≡ Some (number 2, 0))
    × (of_at 1 0 (op successor (one (free 1))) ≡ None) × (of_at 2 0 (op successor (one (free 1))) ≡ Some (number 3, 0))
    × (of_at 1 0 (bind (literal 1) (bound 0)) ≡ None) × (of_at 2 0 (bind (literal 1) (bound 0)) ≡ Some (number 1, 0))
unfolding limited
levels_count = (refl, refl, refl, refl, refl, refl)

numbers_end : (of_at 1 0 last_number ≡ Some (number 18446744073709551615, 0)) × (of_at 1 0 (literal 18446744073709551616) ≡ None)
    × (of_at 2 0 over ≡ None) × (of_at 3 0 (op minus (two (literal 2) (literal 5))) ≡ Some (number 0, 0))
    × (of_at 3 0 (op minus (two over (literal 5))) ≡ None)
unfolding limited
numbers_end = (refl, refl, refl, refl, refl)

-- `double 3` unfolds one call, `sum 2` three; a body is one level above its call
calls_count : (of_at 9 0 (call 4 (one (literal 3))) ≡ None) × (of_at 9 1 (call 4 (one (literal 3))) ≡ Some (number 6, 0))
    × (of_at 2 1 (call 4 (one (literal 3))) ≡ None) × (of_at 3 1 (call 4 (one (literal 3))) ≡ Some (number 6, 0))
    × (of_at 9 2 (call 3 (one (free 1))) ≡ None) × (of_at 9 3 (call 3 (one (free 1))) ≡ Some (number 3, 0))
    × (of_at 9 1 (op plus (two (call 4 (one (literal 1))) (call 4 (one (literal 2))))) ≡ None)
    × (of_at 9 5 (op plus (two (call 4 (one (literal 1))) (call 4 (one (literal 2))))) ≡ Some (number 6, 3))
unfolding limited
calls_count = (refl, refl, refl, refl, refl, refl, refl, refl)

-- a connective evaluates its right side only where the left one doesn't decide
decided_alone : (of_at 9 0 (op conjunction (two (truth false) over_is_zero)) ≡ Some (boolean false, 0))
    × (of_at 9 0 (op conjunction (two (truth true) over_is_zero)) ≡ None)
    × (of_at 9 0 (op conjunction (two over_is_zero (truth false))) ≡ None)
    × (of_at 9 0 (op disjunction (two (truth true) over_is_zero)) ≡ Some (boolean true, 0))
    × (of_at 9 0 (op disjunction (two (truth false) over_is_zero)) ≡ None)
    × (of_at 9 0 (op implication (two (truth false) over_is_zero)) ≡ Some (boolean true, 0))
    × (of_at 9 0 (op implication (two (truth true) over_is_zero)) ≡ None)
    × (of_at 9 0 (op implication (two (truth true) (truth false))) ≡ Some (boolean false, 0))
unfolding limited
decided_alone = (refl, refl, refl, refl, refl, refl, refl, refl)

-- `if` evaluates one branch, `case` too; `let` evaluates its term, used or not
branches_alone : (of_at 9 0 (choice (trees (truth true ∷ literal 1 ∷ over ∷ []))) ≡ Some (number 1, 0))
    × (of_at 9 0 (choice (trees (truth false ∷ literal 1 ∷ over ∷ []))) ≡ None)
    × (of_at 9 0 (case 1 nil (tree.arm 0 (literal 1) (tree.arm 2 over tree.end))) ≡ Some (number 1, 0))
    × (of_at 9 0 (bind over (literal 1)) ≡ None)
unfolding limited
branches_alone = (refl, refl, refl, refl)

-- a branch's last variable is the innermost
branch_variables : (of_at 9 0 (case 1 (cons (literal 7) nil) (tree.arm 0 (literal 1) (tree.arm 2 (bound 1) tree.end))) ≡ Some (number 7, 0))
    × (of_at 9 0 (case 1 (cons (literal 7) nil) (tree.arm 0 (literal 1) (tree.arm 2 (bound 0) tree.end))) ≡ Some (numbers [], 0))
unfolding limited
branch_variables = (refl, refl)

-- a program call evaluates its arguments and gives the answer as it is
program_calls : (of_at 2 0 (put (one (free 1))) ≡ Some (numbers [], 0)) × (of_at 1 0 (put (one (free 1))) ≡ None)
    × (of_at 9 0 (put (one over)) ≡ None)
unfolding limited
program_calls = (refl, refl, refl)

-- the nodes of `[4, 5]`: two `Cons`, one `Nil`, and the numbers
list_nodes : value_nodes (numbers (4 ∷ 5 ∷ [])) ≡ 5
list_nodes = refl

nodes_end : (v : Value) → value_nodes v ≡ 100000 → small_enough v 3 ≡ Some (v, 3)
nodes_end v e = ap (λ n. if nat_le n 100000 then Some (v, 3) else None) e

nodes_past : (v : Value) → value_nodes v ≡ 100001 → small_enough v 3 ≡ None
nodes_past v e = ap (λ n. if nat_le n 100000 then Some (v, 3) else None) e

abbrev raised : ℕ → Tree
raised zero = free 1
raised (suc n) = op successor (one (raised n))

-- 499 `Suc` on a variable have a value, 500 don't
five_hundred_levels : (limited_value sorting (numbers []) (number 2 ∷ []) (raised 499) ≡ Some (number 501, 10000))
    × (limited_value sorting (numbers []) (number 2 ∷ []) (raised 500) ≡ None)
unfolding limited
five_hundred_levels = (refl, refl)

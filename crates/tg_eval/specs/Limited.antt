-- The limited value of a term: call by value, within bounds. A level of evaluation is a number that falls; what it has left of
-- function calls is handed on. Nothing, where a bound is passed.
use Rattle.std.specs.Prelude.{ℕ, zero, suc, Bool, true, false, ◌+◌, nat_eq, nat_lt, nat_le, List, [], ◌∷◌, ◌++◌, reverse, length, Option, Some, None, slice_get, unwrap_or, if◌then◌else◌}
use Rattle.std.specs.Option.{option_map_or}
use Rattle.tg_model.specs.Tree as tree
use Rattle.tg_model.specs.Tree.{Tree, Trees, Arms, bound, free, literal, truth, con, call, put, choice, case, bind, op, Operator, negation, conjunction, disjunction, implication, successor, equality, less, less_equal, plus, minus, times, divide, modulo, unnamed}
use Rattle.tg_model.specs.Value as value
use Rattle.tg_model.specs.Value.{Value, Values, number, boolean, made, values, wrong}
use Rattle.tg_model.specs.Theory.{Theory, Function, Body, plain, recursive, numbered, first_constructor}
use Rattle.tg_model.specs.Denotation.{operated, opened, others, place_of, datatype_of_place}

-- the nodes of a value: one, and those of its arguments
abbrev mutual
  pub value_nodes : Value → ℕ
  value_nodes (number n) = 1
  value_nodes (boolean b) = 1
  value_nodes (made c vs) = 1 + nodes_of vs

  pub nodes_of : Values → ℕ
  nodes_of value.none = 0
  nodes_of (value.more v vs) = value_nodes v + nodes_of vs

-- a value and the calls that are left, or nothing where a bound is passed
abbrev pub Outcome : Type 0
Outcome = Option (Value × ℕ)

-- the number of calls left, the values of the free variables, those of the loose bound ones, and the term
abbrev pub Evaluator : Type 0
Evaluator = ℕ → List Value → List Value → Tree → Outcome

abbrev pub then_value : Outcome → (Value → ℕ → Outcome) → Outcome
then_value None f = None
then_value (Some r) f = f r.0 r.1

abbrev pub then_values : Option (List Value × ℕ) → (List Value → ℕ → Outcome) → Outcome
then_values None f = None
then_values (Some r) f = f r.0 r.1

-- numbers are below 2^64
abbrev pub below_bound : Value → ℕ → Outcome
below_bound (number n) left = if nat_lt n 18446744073709551616 then Some (number n, left) else None
below_bound v left = Some (v, left)

-- a constructor makes values of at most 100,000 nodes
abbrev pub small_enough : Value → ℕ → Outcome
small_enough v left = if nat_le (value_nodes v) 100000 then Some (v, left) else None

abbrev pub with_first : Value → Option (List Value × ℕ) → Option (List Value × ℕ)
with_first v None = None
with_first v (Some q) = Some (v ∷ q.0, q.1)

abbrev pub then_more : Outcome → (ℕ → Option (List Value × ℕ)) → Option (List Value × ℕ)
then_more None f = None
then_more (Some r) f = with_first r.0 (f r.1)

-- what the left side of a connective decides alone
abbrev pub decided : Operator → Value → Option Bool
decided conjunction (boolean false) = Some false
decided disjunction (boolean true) = Some true
decided implication (boolean false) = Some true
decided o v = None

-- one level, where `ev` evaluates the levels above; `answer` is what each program call gives
module _ (th : Theory) (answer : Value) (ev : Evaluator) where
  -- terms from the left
  abbrev pub all_by : ℕ → List Value → List Value → Trees → Option (List Value × ℕ)
  all_by left env loc tree.none = Some ([], left)
  all_by left env loc (tree.more t ts) = then_more (ev left env loc t) (λ rest. all_by rest env loc ts)

  abbrev pub case_by : ℕ → List Value → List Tree → Option (ℕ × List Value) → Outcome
  case_by left rest cases None = Some (wrong, left)
  case_by left rest cases (Some p) = option_map_or (λ t. ev left (rest ++ p.1) [] t) (slice_get cases p.0) (Some (wrong, left))

  abbrev pub body_by : ℕ → List Value → Function → Body → Outcome
  body_by left vs x (plain t) = ev left vs [] t
  body_by left vs x (recursive place cases) =
      case_by left (others vs place) cases
      (opened (datatype_of_place x place) (first_constructor th.datatypes (datatype_of_place x place)) (place_of vs place))

  -- a call of a function takes one of the calls that are left
  abbrev pub called_by : ℕ → ℕ → List Value → Outcome
  called_by zero f vs = None
  called_by (suc left) f vs = option_map_or (λ (x : Function). body_by left vs x x.body) (numbered th.functions f) (Some (wrong, left))

  abbrev pub chosen_by : ℕ → List Value → List Value → Value → Tree → Tree → Outcome
  chosen_by left env loc (boolean true) t u = ev left env loc t
  chosen_by left env loc (boolean false) t u = ev left env loc u
  chosen_by left env loc v t u = Some (wrong, left)

  abbrev pub branch_by : ℕ → List Value → List Value → ℕ → List Value → Arms → Outcome
  branch_by left env loc k vs tree.end = Some (wrong, left)
  branch_by left env loc zero vs (tree.arm n body arms) = if nat_eq n (length vs) then ev left env (reverse vs ++ loc) body else Some (wrong, left)
  branch_by left env loc (suc k) vs (tree.arm n body arms) = branch_by left env loc k vs arms

  abbrev pub opened_by : ℕ → List Value → List Value → Option (ℕ × List Value) → Arms → Outcome
  opened_by left env loc None arms = Some (wrong, left)
  opened_by left env loc (Some p) arms = branch_by left env loc p.0 p.1 arms

  -- a connective evaluates its right side only where the left one doesn't decide
  abbrev pub connected_by : ℕ → List Value → List Value → Operator → Tree → Tree → Outcome
  connected_by left env loc o t u =
      then_value (ev left env loc t) (λ x rest.
      option_map_or (λ b. Some (boolean b, rest)) (decided o x)
      (then_value (ev rest env loc u) (λ y last. Some (operated o (x ∷ y ∷ []), last))))

  abbrev pub operated_by : ℕ → List Value → List Value → Operator → Trees → Outcome
  operated_by left env loc o ts = then_values (all_by left env loc ts) (λ vs rest. below_bound (operated o vs) rest)

  abbrev pub level_by : Evaluator
  level_by left env loc (bound k) = Some (unwrap_or (slice_get loc k) wrong, left)
  level_by left env loc (free n) = Some (unwrap_or (numbered env n) wrong, left)
  level_by left env loc (literal n) = below_bound (number n) left
  level_by left env loc (truth b) = Some (boolean b, left)
  level_by left env loc (con c ts) = then_values (all_by left env loc ts) (λ vs rest. small_enough (made c (values vs)) rest)
  level_by left env loc (call f ts) = then_values (all_by left env loc ts) (λ vs rest. called_by rest f vs)
  level_by left env loc (put ts) = then_values (all_by left env loc ts) (λ vs rest. Some (answer, rest))
  level_by left env loc (choice (tree.more c (tree.more t (tree.more u tree.none)))) =
      then_value (ev left env loc c) (λ v rest. chosen_by rest env loc v t u)
  level_by left env loc (choice ts) = Some (wrong, left)
  level_by left env loc (case d t arms) =
      then_value (ev left env loc t) (λ v rest. opened_by rest env loc (opened d (first_constructor th.datatypes d) v) arms)
  level_by left env loc (bind t body) = then_value (ev left env loc t) (λ v rest. ev rest env (v ∷ loc) body)
  level_by left env loc (op conjunction (tree.more t (tree.more u tree.none))) = connected_by left env loc conjunction t u
  level_by left env loc (op disjunction (tree.more t (tree.more u tree.none))) = connected_by left env loc disjunction t u
  level_by left env loc (op implication (tree.more t (tree.more u tree.none))) = connected_by left env loc implication t u
  level_by left env loc (op o ts) = operated_by left env loc o ts

-- a term whose level is the number of levels, from 1, that may still stand above it
unfoldable pub limited : Theory → Value → ℕ → Evaluator
limited th answer zero left env loc t = None
limited th answer (suc levels) left env loc t = level_by th answer (limited th answer levels) left env loc t

-- at most 500 levels, and at most 10,000 calls of functions
abbrev pub limited_value : Theory → Value → List Value → Tree → Outcome
limited_value th answer env t = limited th answer 500 10000 env [] t

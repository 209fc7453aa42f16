-- The value of a term: HOL's meaning of `primrec`, `definition`, `case`, `if` and `let`.
use Rattle.std.specs.Prelude.{ℕ, zero, suc, Bool, not, ◌&&◌, ◌||◌, ◌+◌, ◌-◌, ◌*◌, ◌/◌, ◌%◌, nat_eq, nat_lt, nat_le, List, [], ◌∷◌, ◌++◌, reverse, length, take, drop, Option, Some, None, slice_get, unwrap_or, if◌then◌else◌}
use Rattle.std.specs.Option.{option_map_or}
use Rattle.tg_model.specs.Tree.{Tree, Trees, Arms, bound, free, literal, truth, con, call, put, choice, case, bind, op, arm, end, Operator, successor, negation, conjunction, disjunction, implication, equality, less, less_equal, plus, minus, times, divide, modulo, unnamed}
use Rattle.tg_model.specs.Tree as tree
use Rattle.tg_model.specs.Value.{Value, number, boolean, made, values, elements, wrong, same_value, size}
use Rattle.tg_model.specs.Theory.{Theory, Function, Body, plain, recursive, numbered, first_constructor, datatype_of}
use Rattle.tg_model.specs.Table.{Table, answer_of}

-- `m div 0` is 0
abbrev pub quotient : ℕ → ℕ → ℕ
quotient m zero = 0
quotient m (suc n) = m / suc n

-- `m mod 0` is `m`
abbrev pub remainder : ℕ → ℕ → ℕ
remainder m zero = m
remainder m (suc n) = m % suc n

abbrev pub on_number : (ℕ → Value) → List Value → Value
on_number f (number m ∷ []) = f m
on_number f _ = wrong

abbrev pub on_numbers : (ℕ → ℕ → Value) → List Value → Value
on_numbers f (number m ∷ number n ∷ []) = f m n
on_numbers f _ = wrong

abbrev pub on_truth : (Bool → Bool) → List Value → Value
on_truth f (boolean a ∷ []) = boolean (f a)
on_truth f _ = wrong

abbrev pub on_truths : (Bool → Bool → Bool) → List Value → Value
on_truths f (boolean a ∷ boolean b ∷ []) = boolean (f a b)
on_truths f _ = wrong

abbrev pub equality_of : List Value → Value
equality_of (v ∷ w ∷ []) = boolean (same_value v w)
equality_of _ = wrong

-- what an operator gives on the values of its operands
abbrev pub operated : Operator → List Value → Value
operated successor = on_number (λ m. number (m + 1))
operated negation = on_truth not
operated conjunction = on_truths (λ a b. a && b)
operated disjunction = on_truths (λ a b. a || b)
operated implication = on_truths (λ a b. not a || b)
operated equality = equality_of
operated less = on_numbers (λ m n. boolean (nat_lt m n))
operated less_equal = on_numbers (λ m n. boolean (nat_le m n))
operated plus = on_numbers (λ m n. number (m + n))
operated minus = on_numbers (λ m n. number (m - n))
operated times = on_numbers (λ m n. number (m * n))
operated divide = on_numbers (λ m n. number (quotient m n))
operated modulo = on_numbers (λ m n. number (remainder m n))
operated (unnamed n) = λ vs. wrong

-- `if`, on the values of its three parts
abbrev pub chosen : List Value → Value
chosen (boolean b ∷ v ∷ w ∷ []) = if b then v else w
chosen _ = wrong

-- the place, from 0, of the constructor that a value of datatype `d` (0 for nat) is made by, and the constructor's
-- arguments; `first` is the number of the datatype's first constructor
abbrev pub opened : ℕ → ℕ → Value → Option (ℕ × List Value)
opened zero first (number zero) = Some (0, [])
opened zero first (number (suc n)) = Some (1, number n ∷ [])
opened (suc d) first (made c vs) = if nat_le first c then Some (c - first, elements vs) else None
opened _ _ _ = None

-- What a term is read in: the values of calls of functions and of the program, and each datatype's first constructor.
pub record World : Type 0 where
  pub calls : ℕ → List Value → Value
  pub answers : List Value → Value
  pub first : ℕ → ℕ

-- `value_in w env loc t`: `env` has the values of the free variables, `loc` those of the loose bound ones, the
-- innermost first. The last variable of a branch is the innermost.
module _ (w : World) (env : List Value) where
  abbrev mutual
    pub value_in : List Value → Tree → Value
    value_in loc (bound k) = unwrap_or (slice_get loc k) wrong
    value_in loc (free n) = unwrap_or (numbered env n) wrong
    value_in loc (literal n) = number n
    value_in loc (truth b) = boolean b
    value_in loc (con c ts) = made c (values (values_in loc ts))
    value_in loc (call f ts) = w.calls f (values_in loc ts)
    value_in loc (put ts) = w.answers (values_in loc ts)
    value_in loc (choice ts) = chosen (values_in loc ts)
    value_in loc (case d t arms) =
        option_map_or (λ (p : ℕ × List Value). branch_in loc p.0 p.1 arms) (opened d (w.first d) (value_in loc t)) wrong
    value_in loc (bind t body) = value_in (value_in loc t ∷ loc) body
    value_in loc (op o ts) = operated o (values_in loc ts)

    pub values_in : List Value → Trees → List Value
    values_in loc tree.none = []
    values_in loc (tree.more t ts) = value_in loc t ∷ values_in loc ts

    -- the branch at place `k`, from 0, with the values `vs` for its variables
    pub branch_in : List Value → ℕ → List Value → Arms → Value
    branch_in loc k vs end = wrong
    branch_in loc zero vs (arm n body arms) = if nat_eq n (length vs) then value_in (reverse vs ++ loc) body else wrong
    branch_in loc (suc k) vs (arm n body arms) = branch_in loc k vs arms

-- the value at a place, from 1
abbrev pub place_of : List Value → ℕ → Value
place_of vs n = unwrap_or (numbered vs n) wrong

-- what stands at all other places
abbrev pub others : {A : Type 0} → List A → ℕ → List A
others xs n = take (n - 1) xs ++ drop n xs

-- a primitive recursive function: its number, the place of the argument that it recurses on, the number of that argument's
-- datatype (0 for nat), and one body for each of its constructors
pub record Recursion : Type 0 where
  pub self : ℕ
  pub place : ℕ
  pub datatype : ℕ
  pub cases : List Tree

-- the number of the datatype of the argument at a place
abbrev pub datatype_of_place : Function → ℕ → ℕ
datatype_of_place f place = option_map_or datatype_of (numbered f.arguments place) 0

abbrev pub recursion_of : ℕ → Function → ℕ → List Tree → Recursion
recursion_of self f place cases = record { self = self; place = place; datatype = datatype_of_place f place; cases = cases }

-- The calls that the body of a primitive recursive function may make at the arguments `vs`: its own where the argument
-- at its place has become smaller, and those of earlier functions. Any other call isn't lower and gives False.
abbrev pub lower_calls : Recursion → (List Value → Value) → (ℕ → List Value → Value) → List Value → ℕ → List Value → Value
lower_calls r own earlier vs f ws =
    if nat_eq f r.self then (if nat_lt (size (place_of ws r.place)) (size (place_of vs r.place)) then own ws else wrong) else earlier f ws

-- the same world with other calls of functions
abbrev pub with_calls : World → (ℕ → List Value → Value) → World
with_calls w calls = record { calls = calls; answers = w.answers; first = w.first }

-- the body of the case of the constructor that the argument at its place is made by; its variables are the other arguments
-- and then the constructor's
abbrev pub case_value : World → Recursion → List Value → Value
case_value w r vs =
    option_map_or
    (λ (p : ℕ × List Value). option_map_or (λ t. value_in w (others vs r.place ++ p.1) [] t) (slice_get r.cases p.0) wrong)
    (opened r.datatype (w.first r.datatype) (place_of vs r.place)) wrong

-- a primitive recursive function, by recursion on a number that is above the size of the argument at its place
abbrev pub recursive_value : World → Recursion → ℕ → List Value → Value
recursive_value w r zero vs = wrong
recursive_value w r (suc n) vs = case_value (with_calls w (lower_calls r (recursive_value w r n) w.calls vs)) r vs

-- the value of function `self` at arguments, `w` having the values of the calls of earlier functions
abbrev pub body_value : World → ℕ → Function → Body → List Value → Value
body_value w self f (plain t) vs = value_in w vs [] t
body_value w self f (recursive place cases) vs =
    recursive_value w (recursion_of self f place cases) (suc (size (place_of vs place))) vs

-- the world in which the first `n` functions may be called
abbrev pub world_below : Theory → Table → ℕ → World
world_below th tb zero = record { calls = λ f vs. wrong; answers = answer_of th tb; first = first_constructor th.datatypes }
world_below th tb (suc n) =
    record {
      calls = λ f vs. if nat_eq f (suc n)
          then option_map_or (λ (x : Function). body_value (world_below th tb n) f x x.body vs) (numbered th.functions f) wrong
          else (world_below th tb n).calls f vs;
      answers = answer_of th tb;
      first = first_constructor th.datatypes;
    }

abbrev pub world : Theory → Table → World
world th tb = world_below th tb (length th.functions)

-- the value of a term on a table, where `env` has the values of the free variables and `loc` those of the loose bound ones
abbrev pub den : Theory → Table → List Value → List Value → Tree → Value
den th tb env loc t = value_in (world th tb) env loc t

-- The clauses of a boolean term: its conjunctive normal form, by the table of a term's list and its negation's. (Brucker and
-- Wolff's test theorems are made of such clauses.)
use Rattle.std.specs.Prelude.{ℕ, Bool, true, false, not, ◌&&◌, ◌||◌, nat_le, List, [], ◌∷◌, ◌++◌, length, map, if◌then◌else◌}
use Rattle.std.specs.List.{list_any, filter, flat_map}
use Rattle.tg_model.specs.Tree as tree
use Rattle.tg_model.specs.Tree.{Tree, Trees, bound, free, literal, truth, con, call, put, choice, case, bind, op, Operator, negation, conjunction, disjunction, implication, equality, less, less_equal}
use Rattle.tg_model.specs.Value.{same_truth}
use Rattle.tg_model.specs.Equality.{same_tree}
use Rattle.tg_clause.specs.declared.literals.Literal.{Literal}

-- a clause says that one of its literals is true
abbrev pub Clause : Type 0
Clause = List Literal

abbrev pub said : Bool → Tree → Literal
said b t = record { positive = b; atom = t }

abbrev pub same_literal : Literal → Literal → Bool
same_literal l m = same_truth l.positive m.positive && same_tree l.atom m.atom

-- the literal's negation
abbrev pub opposite : Literal → Literal
opposite l = said (not l.positive) l.atom

-- the literal stands in the clause
abbrev pub has : Clause → Literal → Bool
has c l = list_any (same_literal l) c

-- both clauses as one: behind the first the literals of the second that don't stand in the first
abbrev pub joined : Clause → Clause → Clause
joined c d = c ++ filter (λ l. not (has c l)) d

-- each clause of the first list joined with each of the second, the first slowest
abbrev pub product : List Clause → List Clause → List Clause
product cs ds = flat_map (λ c. map (joined c) ds) cs

-- a list of clauses; `fits` where neither it nor a list that it was made of has more than 4,096 clauses
pub record Side : Type 0 where
  pub list : List Clause
  pub fits : Bool

abbrev pub most_clauses : ℕ
most_clauses = 4096

abbrev pub made : List Clause → Bool → Side
made cs parts = record { list = cs; fits = nat_le (length cs) most_clauses && parts }

abbrev pub beside : Side → Side → Side
beside a b = made (a.list ++ b.list) (a.fits && b.fits)

abbrev pub times : Side → Side → Side
times a b = made (product a.list b.list) (a.fits && b.fits)

-- the clauses of a term, and those of its negation
pub record Sides : Type 0 where
  pub positive : Side
  pub negative : Side

abbrev pub turned : Sides → Sides
turned a = record { positive = a.negative; negative = a.positive }

-- True has no clause, False the empty one
abbrev pub of_truth : Bool → Sides
of_truth true = record { positive = made [] true; negative = made ([] ∷ []) true }
of_truth false = record { positive = made ([] ∷ []) true; negative = made [] true }

abbrev pub of_atom : Tree → Sides
of_atom t = record { positive = made ((said true t ∷ []) ∷ []) true; negative = made ((said false t ∷ []) ∷ []) true }

abbrev pub of_conjunction : Sides → Sides → Sides
of_conjunction a b = record { positive = beside a.positive b.positive; negative = times a.negative b.negative }

-- `a | b` is `~ (~ a & ~ b)`, `a --> b` is `~ a | b`
abbrev pub of_disjunction : Sides → Sides → Sides
of_disjunction a b = turned (of_conjunction (turned a) (turned b))

abbrev pub of_implication : Sides → Sides → Sides
of_implication a b = of_disjunction (turned a) b

-- `a = b` is `(~ a | b) & (~ b | a)`, and its negation `(a | b) & (~ a | ~ b)`
abbrev pub of_equality : Sides → Sides → Sides
of_equality a b = record {
  positive = beside (times a.negative b.positive) (times b.negative a.positive);
  negative = beside (times a.positive b.positive) (times a.negative b.negative);
}

-- True, False, or one of `~ & | --> = < <=` at the root
abbrev pub is_connective : Operator → Bool
is_connective negation = true
is_connective conjunction = true
is_connective disjunction = true
is_connective implication = true
is_connective equality = true
is_connective less = true
is_connective less_equal = true
is_connective o = false

abbrev pub is_boolean_shaped : Tree → Bool
is_boolean_shaped (truth b) = true
is_boolean_shaped (op o ts) = is_connective o
is_boolean_shaped t = false

abbrev pub some_boolean_shaped : Trees → Bool
some_boolean_shaped tree.none = false
some_boolean_shaped (tree.more t ts) = is_boolean_shaped t || some_boolean_shaped ts

-- an operator at these operands, whose sides are given
abbrev pub of_operation : Operator → Trees → List Sides → Sides
of_operation negation ts (a ∷ []) = turned a
of_operation conjunction ts (a ∷ b ∷ []) = of_conjunction a b
of_operation disjunction ts (a ∷ b ∷ []) = of_disjunction a b
of_operation implication ts (a ∷ b ∷ []) = of_implication a b
of_operation equality ts (a ∷ b ∷ []) = if some_boolean_shaped ts then of_equality a b else of_atom (op equality ts)
of_operation o ts ss = of_atom (op o ts)

abbrev mutual
  pub sides : Tree → Sides
  sides (truth b) = of_truth b
  sides (op o ts) = of_operation o ts (all_sides ts)
  sides (bound k) = of_atom (bound k)
  sides (free n) = of_atom (free n)
  sides (literal n) = of_atom (literal n)
  sides (con c ts) = of_atom (con c ts)
  sides (call f ts) = of_atom (call f ts)
  sides (put ts) = of_atom (put ts)
  sides (choice ts) = of_atom (choice ts)
  sides (case d t arms) = of_atom (case d t arms)
  sides (bind t body) = of_atom (bind t body)

  pub all_sides : Trees → List Sides
  all_sides tree.none = []
  all_sides (tree.more t ts) = sides t ∷ all_sides ts

-- a literal and its negation stand in the clause
abbrev pub is_tautology : Clause → Bool
is_tautology c = list_any (λ l. has c (opposite l)) c

-- the clause form, without tautologies
abbrev pub clauses_of : Tree → List Clause
clauses_of t = filter (λ c. not (is_tautology c)) (sides t).positive.list

-- no list that the clause form asks for has more than 4,096 clauses
abbrev pub fits : Tree → Bool
fits t = (sides t).positive.fits

-- Terms as trees. Numbers are unbounded.
use Rattle.std.specs.Prelude.{ℕ, Bool, List, [], ◌∷◌}

-- the operators of the language, in the order of their numbers, from 1: `Suc ~ & | --> = < <= + - * div mod`;
-- `unnamed n` stands for a number `n` that names none
pub data Operator : Type 0 where
  successor : Operator
  negation : Operator
  conjunction : Operator
  disjunction : Operator
  implication : Operator
  equality : Operator
  less : Operator
  less_equal : Operator
  plus : Operator
  minus : Operator
  times : Operator
  divide : Operator
  modulo : Operator
  unnamed : (n : ℕ) → Operator
  deriving Discrete as operator_discrete

-- the operators with a name, each at the place, from 1, that is its number
abbrev pub operators : List Operator
operators =
    successor ∷ negation ∷ conjunction ∷ disjunction ∷ implication ∷ equality ∷ less ∷ less_equal ∷ plus ∷ minus ∷ times ∷ divide ∷ modulo ∷ []

mutual
  -- `bound k` counts binders from the inside, from 0; `free n` is the variable `?n`, from 1
  pub data Tree : Type 0 where
    bound : (k : ℕ) → Tree
    free : (n : ℕ) → Tree
    literal : (n : ℕ) → Tree
    truth : (b : Bool) → Tree
    con : (c : ℕ) (ts : Trees) → Tree
    call : (f : ℕ) (ts : Trees) → Tree
    put : (ts : Trees) → Tree
    choice : (ts : Trees) → Tree
    case : (d : ℕ) (t : Tree) (arms : Arms) → Tree
    bind : (t : Tree) (body : Tree) → Tree
    op : (o : Operator) (ts : Trees) → Tree
    deriving Discrete as tree_discrete

  pub data Trees : Type 0 where
    none : Trees
    more : (t : Tree) (ts : Trees) → Trees
    deriving Discrete as trees_discrete

  -- the branches of a `case`, in the order of the constructors, each with its number of variables
  pub data Arms : Type 0 where
    end : Arms
    arm : (vars : ℕ) (body : Tree) (arms : Arms) → Arms
    deriving Discrete as arms_discrete

abbrev pub trees : List Tree → Trees
trees [] = none
trees (t ∷ ts) = more t (trees ts)

abbrev pub elements : Trees → List Tree
elements none = []
elements (more t ts) = t ∷ elements ts

abbrev pub one : Tree → Trees
one t = more t none

abbrev pub two : Tree → Tree → Trees
two t u = more t (one u)

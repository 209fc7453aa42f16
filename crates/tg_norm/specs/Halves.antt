-- The split of a term at an `if`: the condition that is taken, and the terms where it is true and where it is false.
use Rattle.std.specs.Prelude.{Bool, true, false, ◌≡◌, List, [], ◌∷◌, ◌++◌, Option, Some, None, if◌then◌else◌}
use Rattle.tg_model.specs.Tree as tree
use Rattle.tg_model.specs.Tree.{Tree, Trees, bound, free, literal, truth, con, call, put, choice, case, bind, op}
use Rattle.tg_model.specs.Equality.{same_tree}
use Rattle.tg_norm.specs.declared.splitting.Branches.{Branches}

-- the conditions of the term's outside `if`s in preorder, where an `if` is outside that doesn't stand in a branch of a `case`
abbrev mutual
  pub conditions : Tree → List Tree
  conditions (bound k) = []
  conditions (free n) = []
  conditions (literal n) = []
  conditions (truth b) = []
  conditions (con c ts) = all_conditions ts
  conditions (call f ts) = all_conditions ts
  conditions (put ts) = all_conditions ts
  conditions (choice tree.none) = []
  conditions (choice (tree.more t ts)) = t ∷ (conditions t ++ all_conditions ts)
  conditions (case d t arms) = conditions t
  conditions (bind t body) = conditions t ++ conditions body
  conditions (op o ts) = all_conditions ts

  pub all_conditions : Trees → List Tree
  all_conditions tree.none = []
  all_conditions (tree.more t ts) = conditions t ++ all_conditions ts

-- the first of some conditions that has itself no outside `if`
abbrev pub or_first : List Tree → Tree → Option Tree → Option Tree
or_first [] c o = Some c
or_first (d ∷ ds) c o = o

abbrev pub first_plain : List Tree → Option Tree
first_plain [] = None
first_plain (c ∷ cs) = or_first (conditions c) c (first_plain cs)

abbrev pub condition_of : Tree → Option Tree
condition_of t = first_plain (conditions t)

-- the term with a truth value for each outside occurrence of `q`, in program calls and under a `let` too
module _ (q : Tree) (b : Bool) where
  abbrev pub unless_same : Tree → Tree → Tree
  unless_same t u = if same_tree t q then truth b else u

  abbrev mutual
    pub replaced : Tree → Tree
    replaced (bound k) = unless_same (bound k) (bound k)
    replaced (free n) = unless_same (free n) (free n)
    replaced (literal n) = unless_same (literal n) (literal n)
    replaced (truth c) = unless_same (truth c) (truth c)
    replaced (con c ts) = unless_same (con c ts) (con c (all_replaced ts))
    replaced (call f ts) = unless_same (call f ts) (call f (all_replaced ts))
    replaced (put ts) = unless_same (put ts) (put (all_replaced ts))
    replaced (choice ts) = unless_same (choice ts) (choice (all_replaced ts))
    replaced (case d t arms) = unless_same (case d t arms) (case d (replaced t) arms)
    replaced (bind t body) = unless_same (bind t body) (bind (replaced t) (replaced body))
    replaced (op o ts) = unless_same (op o ts) (op o (all_replaced ts))

    pub all_replaced : Trees → Trees
    all_replaced tree.none = tree.none
    all_replaced (tree.more t ts) = tree.more (replaced t) (all_replaced ts)

-- the halves of a term: there is an outside `if`, and `q` is the condition that is taken
pub record AreHalves (t q : Tree) (bs : Branches) : Type 0 where
  pub condition : bs.condition ≡ q
  pub met : bs.yes ≡ replaced q true t
  pub unmet : bs.no ≡ replaced q false t

abbrev pub IsSplit : Tree → Option Tree → Option Branches → Type 0
IsSplit t None o = o ≡ None
IsSplit t (Some q) None = ⊥
IsSplit t (Some q) (Some bs) = AreHalves t q bs

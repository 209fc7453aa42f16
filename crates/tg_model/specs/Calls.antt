-- Calls in terms: which of functions, and which of the program.
use Rattle.std.specs.Prelude.{Bool, true, false, ◌||◌}
use Rattle.tg_model.specs.Tree as tree
use Rattle.tg_model.specs.Tree.{Tree, Trees, Arms, bound, free, literal, truth, con, call, put, choice, case, bind, op}
use Rattle.tg_model.specs.Formula.{Formula, atom, both, implies, all, some, thyp, tested, deep}

-- the program is called somewhere in the term, branches included
abbrev mutual
  pub has_call : Tree → Bool
  has_call (bound k) = false
  has_call (free n) = false
  has_call (literal n) = false
  has_call (truth b) = false
  has_call (con c ts) = have_call ts
  has_call (call f ts) = have_call ts
  has_call (put ts) = true
  has_call (choice ts) = have_call ts
  has_call (case d t arms) = has_call t || branches_have_call arms
  has_call (bind t body) = has_call t || has_call body
  has_call (op o ts) = have_call ts

  pub have_call : Trees → Bool
  have_call tree.none = false
  have_call (tree.more t ts) = has_call t || have_call ts

  pub branches_have_call : Arms → Bool
  branches_have_call tree.end = false
  branches_have_call (tree.arm n body arms) = has_call body || branches_have_call arms

abbrev pub formula_has_call : Formula → Bool
formula_has_call (atom t) = has_call t
formula_has_call (both f g) = formula_has_call f || formula_has_call g
formula_has_call (implies f g) = formula_has_call f || formula_has_call g
formula_has_call (all t f) = formula_has_call f
formula_has_call (some t f) = formula_has_call f
formula_has_call (thyp f) = formula_has_call f
formula_has_call (tested ts) = have_call ts
formula_has_call (deep k ts) = have_call ts

-- each program call in the term passes a test of its inputs
module _ (Allowed : Trees → Type 0) where
  abbrev mutual
    pub EachPut : Tree → Type 0
    EachPut (bound k) = Unit {0}
    EachPut (free n) = Unit {0}
    EachPut (literal n) = Unit {0}
    EachPut (truth b) = Unit {0}
    EachPut (con c ts) = EachPuts ts
    EachPut (call f ts) = EachPuts ts
    EachPut (put ts) = Allowed ts × EachPuts ts
    EachPut (choice ts) = EachPuts ts
    EachPut (case d t arms) = EachPut t × EachPutOf arms
    EachPut (bind t body) = EachPut t × EachPut body
    EachPut (op o ts) = EachPuts ts

    pub EachPuts : Trees → Type 0
    EachPuts tree.none = Unit {0}
    EachPuts (tree.more t ts) = EachPut t × EachPuts ts

    pub EachPutOf : Arms → Type 0
    EachPutOf tree.end = Unit {0}
    EachPutOf (tree.arm n body arms) = EachPut body × EachPutOf arms

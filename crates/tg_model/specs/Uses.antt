-- Which free variables stand in a term or a formula.
use Rattle.std.specs.Prelude.{ℕ, Bool, true, false, ◌||◌, nat_eq, ◌≡◌, List}
use Rattle.tg_model.specs.Tree as tree
use Rattle.tg_model.specs.Tree.{Tree, Trees, Arms, bound, free, literal, truth, con, call, put, choice, case, bind, op, arm, end}
use Rattle.tg_model.specs.Formula.{Formula, atom, both, implies, all, some, thyp, tested, deep}
use Rattle.tg_model.specs.Value.{Value}
use Rattle.tg_model.specs.Theory.{numbered}

-- `?n` stands in the term
module _ (n : ℕ) where
  abbrev mutual
    pub uses : Tree → Bool
    uses (bound k) = false
    uses (free m) = nat_eq m n
    uses (literal m) = false
    uses (truth b) = false
    uses (con c ts) = use_any ts
    uses (call f ts) = use_any ts
    uses (put ts) = use_any ts
    uses (choice ts) = use_any ts
    uses (case d t arms) = uses t || use_branch arms
    uses (bind t body) = uses t || uses body
    uses (op o ts) = use_any ts

    pub use_any : Trees → Bool
    use_any tree.none = false
    use_any (tree.more t ts) = uses t || use_any ts

    pub use_branch : Arms → Bool
    use_branch end = false
    use_branch (arm vars body arms) = uses body || use_branch arms

  abbrev pub uses_in_formula : Formula → Bool
  uses_in_formula (atom t) = uses t
  uses_in_formula (both f g) = uses_in_formula f || uses_in_formula g
  uses_in_formula (implies f g) = uses_in_formula f || uses_in_formula g
  uses_in_formula (all t f) = uses_in_formula f
  uses_in_formula (some t f) = uses_in_formula f
  uses_in_formula (thyp f) = uses_in_formula f
  uses_in_formula (tested ts) = use_any ts
  uses_in_formula (deep k ts) = use_any ts

-- two lists give the same value to each variable that passes a test
abbrev pub AgreeWhere : (ℕ → Bool) → List Value → List Value → Type 0
AgreeWhere test env env' = (m : ℕ) → test m ≡ true → numbered env m ≡ numbered env' m

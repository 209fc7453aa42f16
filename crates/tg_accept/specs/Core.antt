-- The core term that a resolved term stands for: its branches in the order of the constructors, and the declared function by its
-- number; and a core term as a resolved one.
use Rattle.std.specs.Prelude.{ℕ, zero, suc, Bool, true, false, ◌≡◌, nat_eq, List, [], ◌∷◌, length, if◌then◌else◌, slice_get}
use Rattle.std.specs.Option.{option_map_or}
use Rattle.tg_model.specs.Tree as tree
use Rattle.tg_model.specs.Tree.{Tree, Trees, Arms}
use Rattle.tg_model.specs.Theory.{Theory, Datatype, first_constructor}
use Rattle.tg_accept.specs.Resolved as resolved
use Rattle.tg_accept.specs.Resolved.{Head, zero_head, successor_head, of, Resolved, Resolveds, Branches, bound, free, literal, truth, con, call, own, misused, put, choice, case, bind, op, branch}

abbrev pub same_head : Head → Head → Bool
same_head zero_head zero_head = true
same_head successor_head successor_head = true
same_head (of c) (of d) = nat_eq c d
same_head _ _ = false

abbrev pub heads_from : ℕ → ℕ → List Head
heads_from c zero = []
heads_from c (suc count) = of c ∷ heads_from (suc c) count

-- a branch for each constructor of datatype `n`, in their order
abbrev pub heads_of : Theory → ℕ → List Head
heads_of th zero = zero_head ∷ successor_head ∷ []
heads_of th (suc d) =
    heads_from (first_constructor th.datatypes (suc d)) (option_map_or (λ (x : Datatype). length x.constructors) (slice_get th.datatypes d) 0)

-- a branch with its core term
pub record Written : Type 0 where
  pub head : Head
  pub vars : ℕ
  pub body : Tree

-- the first branch of a head; where there is none, one that binds nothing and is False
abbrev pub branch_of : List Written → Head → Written
branch_of [] h = record { head = h; vars = 0; body = tree.truth false }
branch_of (w ∷ ws) h = if same_head w.head h then w else branch_of ws h

abbrev pub arranged : List Written → List Head → Arms
arranged ws [] = tree.end
arranged ws (h ∷ hs) = tree.arm (branch_of ws h).vars (branch_of ws h).body (arranged ws hs)

-- `self` is the number of the function that is being declared
module _ (th : Theory) (self : ℕ) where
  abbrev mutual
    pub core : Resolved → Tree
    core (bound k) = tree.bound k
    core (free n) = tree.free n
    core (literal n) = tree.literal n
    core (truth b) = tree.truth b
    core (con c ts) = tree.con c (cores ts)
    core (call f ts) = tree.call f (cores ts)
    core (own ts) = tree.call self (cores ts)
    core (misused ts) = tree.truth false
    core (put ts) = tree.put (cores ts)
    core (choice ts) = tree.choice (cores ts)
    core (case n t bs) = tree.case n (core t) (arranged (written bs) (heads_of th n))
    core (bind t body) = tree.bind (core t) (core body)
    core (op o ts) = tree.op o (cores ts)

    pub cores : Resolveds → Trees
    cores resolved.none = tree.none
    cores (resolved.more t ts) = tree.more (core t) (cores ts)

    pub written : Branches → List Written
    written resolved.end = []
    written (branch head xs body bs) = record { head = head; vars = length xs; body = core body } ∷ written bs

abbrev pub has_branch : Head → Branches → Bool
has_branch h resolved.end = false
has_branch h (branch head xs body bs) = if same_head head h then true else has_branch h bs

-- there is a branch for each of the heads
abbrev pub HasBranches : List Head → Branches → Type 0
HasBranches [] bs = Unit {0}
HasBranches (h ∷ hs) bs = (has_branch h bs ≡ true) × HasBranches hs bs

-- each `case` in the term has a branch for each constructor of its datatype
module _ (th : Theory) where
  abbrev mutual
    pub EachCaseWhole : Resolved → Type 0
    EachCaseWhole (con c ts) = EachCasesWhole ts
    EachCaseWhole (call f ts) = EachCasesWhole ts
    EachCaseWhole (own ts) = EachCasesWhole ts
    EachCaseWhole (misused ts) = EachCasesWhole ts
    EachCaseWhole (put ts) = EachCasesWhole ts
    EachCaseWhole (choice ts) = EachCasesWhole ts
    EachCaseWhole (op o ts) = EachCasesWhole ts
    EachCaseWhole (case n t bs) = HasBranches (heads_of th n) bs × EachCaseWhole t × EachBranchWhole bs
    EachCaseWhole (bind t body) = EachCaseWhole t × EachCaseWhole body
    EachCaseWhole t = Unit {0}

    pub EachCasesWhole : Resolveds → Type 0
    EachCasesWhole resolved.none = Unit {0}
    EachCasesWhole (resolved.more t ts) = EachCaseWhole t × EachCasesWhole ts

    pub EachBranchWhole : Branches → Type 0
    EachBranchWhole resolved.end = Unit {0}
    EachBranchWhole (branch head xs body bs) = EachCaseWhole body × EachBranchWhole bs

-- names for as many variables as a branch of a core term binds
abbrev pub unnamed : ℕ → List (List ℕ)
unnamed zero = []
unnamed (suc n) = [] ∷ unnamed n

-- a core term as a resolved one, whose branches are for the constructors in order
module _ (th : Theory) where
  abbrev mutual
    pub resolved_again : Tree → Resolved
    resolved_again (tree.bound k) = bound k
    resolved_again (tree.free n) = free n
    resolved_again (tree.literal n) = literal n
    resolved_again (tree.truth b) = truth b
    resolved_again (tree.con c ts) = con c (all_resolved_again ts)
    resolved_again (tree.call f ts) = call f (all_resolved_again ts)
    resolved_again (tree.put ts) = put (all_resolved_again ts)
    resolved_again (tree.choice ts) = choice (all_resolved_again ts)
    resolved_again (tree.case n t arms) = case n (resolved_again t) (branches_again arms (heads_of th n))
    resolved_again (tree.bind t body) = bind (resolved_again t) (resolved_again body)
    resolved_again (tree.op o ts) = op o (all_resolved_again ts)

    pub all_resolved_again : Trees → Resolveds
    all_resolved_again tree.none = resolved.none
    all_resolved_again (tree.more t ts) = resolved.more (resolved_again t) (all_resolved_again ts)

    pub branches_again : Arms → List Head → Branches
    branches_again (tree.arm n body arms) (h ∷ hs) = branch h (unnamed n) (resolved_again body) (branches_again arms hs)
    branches_again arms hs = resolved.end

-- What a term has at its root, and steps that may find nothing.
use Rattle.std.specs.Prelude.{ℕ, zero, suc, Bool, true, false}
use Rattle.std.specs.Prelude.{Option, Some, None}
use Rattle.tg_model.specs.Tree as tree
use Rattle.tg_model.specs.Tree.{Tree, Trees, Arms, literal, truth, con, call, choice, case, bind, op, Operator, operator_discrete, none, more}
use Rattle.tg_model.specs.Equality.{is_yes, number_decided}

abbrev pub only_if : {A : Type 0} → Bool → A → Option A
only_if true x = Some x
only_if false x = None

-- what the second step finds from what the first one did
abbrev pub and_then : {A B : Type 0} → Option A → (A → Option B) → Option B
and_then None f = None
and_then (Some x) f = f x

-- what the first step finds, or else the second
abbrev pub or_else : {A : Type 0} → Option A → Option A → Option A
or_else (Some x) o = Some x
or_else None o = o

abbrev pub same_operator : Operator → Operator → Bool
same_operator o p = is_yes (operator_discrete number_decided o p)

-- the operand, and the two operands, of an operator
abbrev pub unary : Operator → Tree → Option Tree
unary o (op p (more t none)) = only_if (same_operator o p) t
unary o t = None

abbrev pub binary : Operator → Tree → Option (Tree × Tree)
binary o (op p (more t (more u none))) = only_if (same_operator o p) (t, u)
binary o t = None

abbrev pub truth_of : Tree → Option Bool
truth_of (truth b) = Some b
truth_of t = None

abbrev pub number_of : Tree → Option ℕ
number_of (literal n) = Some n
number_of t = None

-- condition, and both sides
abbrev pub choice_of : Tree → Option (Tree × Tree × Tree)
choice_of (choice (more c (more t (more u none)))) = Some (c, t, u)
choice_of t = None

abbrev pub bind_of : Tree → Option (Tree × Tree)
bind_of (bind t body) = Some (t, body)
bind_of t = None

-- the datatype, the scrutinee and the branches
abbrev pub case_of : Tree → Option (ℕ × Tree × Arms)
case_of (case d t arms) = Some (d, t, arms)
case_of t = None

abbrev pub made_of : Tree → Option (ℕ × Trees)
made_of (con c ts) = Some (c, ts)
made_of t = None

abbrev pub called : Tree → Option (ℕ × Trees)
called (call f ts) = Some (f, ts)
called t = None

-- the branch at a place, from 0: how many variables it binds, and its body
abbrev pub branch_at : Arms → ℕ → Option (ℕ × Tree)
branch_at tree.end k = None
branch_at (tree.arm n body arms) zero = Some (n, body)
branch_at (tree.arm n body arms) (suc k) = branch_at arms k

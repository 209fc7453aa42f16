-- The 48 rewrite schemas, each as a function: what it makes of a term that it applies to at the root. In the comments `a` and `b`
-- are any terms, `m` and `n` literals, `C` and `D` different constructors.
use Rattle.std.specs.Prelude.{ℕ, zero, suc, Bool, true, false, not, ◌+◌, ◌-◌, ◌*◌, nat_eq, nat_lt, nat_le, List, [], ◌∷◌, ◌++◌, length, Option, Some, None, slice_get}
use Rattle.tg_model.specs.Tree.{Tree, literal, truth, op, one, two, elements, Operator, successor, negation, conjunction, disjunction, implication, equality, less, less_equal, plus, minus, times, divide, modulo}
use Rattle.tg_model.specs.Value.{same_truth}
use Rattle.tg_model.specs.Theory.{Theory, Body, plain, recursive, numbered, first_constructor}
use Rattle.tg_model.specs.Denotation.{quotient, remainder, others, datatype_of_place}
use Rattle.tg_model.specs.Walk.{substituted, instantiated}
use Rattle.tg_model.specs.Equality.{same_tree}
use Rattle.tg_rows.specs.Parts.{only_if, and_then, or_else, unary, binary, truth_of, number_of, choice_of, bind_of, case_of, made_of, called, branch_at}

-- an operator whose left side, or whose right side, is the truth value `b`: what `f` makes of the other side
abbrev pub left_truth : Operator → Bool → (Tree → Tree) → Tree → Option Tree
left_truth o b f t = and_then (binary o t) (λ p. and_then (truth_of p.0) (λ c. only_if (same_truth c b) (f p.1)))

abbrev pub right_truth : Operator → Bool → (Tree → Tree) → Tree → Option Tree
right_truth o b f t = and_then (binary o t) (λ p. and_then (truth_of p.1) (λ c. only_if (same_truth c b) (f p.0)))

-- an operator whose two sides are equal
abbrev pub alike : Operator → (Tree → Tree) → Tree → Option Tree
alike o f t = and_then (binary o t) (λ p. only_if (same_tree p.0 p.1) (f p.0))

-- an operator at two literals
abbrev pub literals : Operator → (ℕ → ℕ → Option Tree) → Tree → Option Tree
literals o f t = and_then (binary o t) (λ p. and_then (number_of p.0) (λ m. and_then (number_of p.1) (λ n. f m n)))

abbrev pub itself : Tree → Tree
itself a = a

abbrev pub always : Bool → Tree → Tree
always b a = truth b

abbrev pub denied : Tree → Tree
denied a = op negation (one a)

-- a literal below 2^64, as the program has them
abbrev pub small : ℕ → Option Tree
small n = only_if (nat_lt n 18446744073709551616) (literal n)

-- `~ True`, `~ False` and `~ ~ a`
abbrev pub not_truth : Bool → Tree → Option Tree
not_truth b t = and_then (unary negation t) (λ a. and_then (truth_of a) (λ c. only_if (same_truth c b) (truth (not b))))

abbrev pub not_not : Tree → Option Tree
not_not t = and_then (unary negation t) (λ a. unary negation a)

-- `if True then a else b` and `if False then a else b`; `if c then a else a`
abbrev pub side : Bool → Tree → Tree → Tree
side true u v = u
side false u v = v

abbrev pub if_truth : Bool → Tree → Option Tree
if_truth b t = and_then (choice_of t) (λ p. and_then (truth_of p.0) (λ c. only_if (same_truth c b) (side b p.1 p.2)))

abbrev pub if_same : Tree → Option Tree
if_same t = and_then (choice_of t) (λ p. only_if (same_tree p.1 p.2) p.1)

-- `let x = a in b`
abbrev pub let_sub : Tree → Option Tree
let_sub t = and_then (bind_of t) (λ p. Some (instantiated (p.0 ∷ []) p.1))

-- A scrutinee of datatype `d` (0 for nat) as it is written, `C a1 .. an`, `Suc a` or `n`: the place of its constructor, from 0, and
-- the constructor's arguments.
abbrev pub Opener : Type 0
Opener = ℕ → Tree → Option (ℕ × List Tree)

abbrev pub from_constructor : Theory → Opener
from_constructor th d t =
    and_then (made_of t) (λ p. only_if (nat_le (first_constructor th.datatypes d) p.0) (p.0 - first_constructor th.datatypes d, elements p.1))

abbrev pub from_successor : Opener
from_successor d t = and_then (unary successor t) (λ a. Some (1, a ∷ []))

abbrev pub place_of_literal : ℕ → ℕ × List Tree
place_of_literal zero = (0, [])
place_of_literal (suc n) = (1, literal n ∷ [])

abbrev pub from_literal : Opener
from_literal d t = and_then (number_of t) (λ n. Some (place_of_literal n))

-- a branch with terms for its variables, as many as it binds
abbrev pub entered : List Tree → ℕ × Tree → Option Tree
entered us p = only_if (nat_eq p.0 (length us)) (instantiated us p.1)

-- a `case` whose scrutinee is written so: its branch
abbrev pub case_by : Opener → Tree → Option Tree
case_by opener t = and_then (case_of t) (λ p. and_then (opener p.0 p.1) (λ q. and_then (branch_at p.2 q.0) (entered q.1)))

abbrev pub plain_body : Body → Option Tree
plain_body (plain t) = Some t
plain_body (recursive place cases) = None

abbrev pub recursive_body : Body → Option (ℕ × List Tree)
recursive_body (plain t) = None
recursive_body (recursive place cases) = Some (place, cases)

-- a call of a definition: its body at the arguments
abbrev pub unfold_def : Theory → Tree → Option Tree
unfold_def th t =
    and_then (called t) (λ q. and_then (numbered th.functions q.0) (λ x. and_then (plain_body x.body) (λ u. Some (substituted (elements q.1) u))))

-- a call of a primitive recursive function whose argument at its place is written so: the body for that constructor
abbrev pub unfold_by : Opener → Theory → Tree → Option Tree
unfold_by opener th t =
    and_then (called t) (λ q. and_then (numbered th.functions q.0) (λ x. and_then (recursive_body x.body) (λ r.
    and_then (numbered (elements q.1) r.0) (λ a. and_then (opener (datatype_of_place x r.0) a) (λ p.
    and_then (slice_get r.1 p.0) (λ u. Some (substituted (others (elements q.1) r.0 ++ p.1) u)))))))

abbrev pub equation : Tree → Tree → Tree
equation a b = op equality (two a b)

-- `a1 = b1 & (a2 = b2 & ..)`, of as many and at least one
abbrev pub equal_parts : List Tree → List Tree → Option Tree
equal_parts (a ∷ []) (b ∷ []) = Some (equation a b)
equal_parts (a ∷ as') (b ∷ bs) = and_then (equal_parts as' bs) (λ e. Some (op conjunction (two (equation a b) e)))
equal_parts ts us = None

-- `C a1 .. an = C b1 .. bn`, n at least 1, and `C .. = D ..`
abbrev pub eq_con : Tree → Option Tree
eq_con t = and_then (binary equality t) (λ p. and_then (made_of p.0) (λ q. and_then (made_of p.1) (λ r.
    and_then (only_if (nat_eq q.0 r.0) q.0) (λ c. equal_parts (elements q.1) (elements r.1)))))

abbrev pub eq_con_diff : Tree → Option Tree
eq_con_diff t = and_then (binary equality t) (λ p. and_then (made_of p.0) (λ q. and_then (made_of p.1) (λ r.
    only_if (not (nat_eq q.0 r.0)) (truth false))))

-- `Suc a = Suc b`
abbrev pub eq_suc : Tree → Option Tree
eq_suc t = and_then (binary equality t) (λ p. and_then (unary successor p.0) (λ a. and_then (unary successor p.1) (λ b. Some (equation a b))))

-- `0 = Suc a` or `Suc a = 0`
abbrev pub zero_successor : Tree → Tree → Option Tree
zero_successor t u = and_then (number_of t) (λ n. and_then (unary successor u) (λ a. only_if (nat_eq n 0) (truth false)))

abbrev pub eq_zero_suc : Tree → Option Tree
eq_zero_suc t = and_then (binary equality t) (λ p. or_else (zero_successor p.0 p.1) (zero_successor p.1 p.0))

-- `Suc a = n` or `n = Suc a`, n at least 1
abbrev pub before : ℕ → Option ℕ
before zero = None
before (suc n) = Some n

abbrev pub eq_suc_lit : Tree → Option Tree
eq_suc_lit t = and_then (binary equality t) (λ p. or_else
    (and_then (unary successor p.0) (λ a. and_then (number_of p.1) (λ n. and_then (before n) (λ m. Some (equation a (literal m))))))
    (and_then (unary successor p.1) (λ a. and_then (number_of p.0) (λ n. and_then (before n) (λ m. Some (equation (literal m) a))))))

-- `a = True` or else `True = a`, and of False
abbrev pub eq_truth : Bool → (Tree → Tree) → Tree → Option Tree
eq_truth b f t = or_else (right_truth equality b f t) (left_truth equality b f t)

-- `Suc n`
abbrev pub suc_lit : Tree → Option Tree
suc_lit t = and_then (unary successor t) (λ a. and_then (number_of a) (λ n. small (n + 1)))

abbrev pub Row : Type 0
Row = Tree → Option Tree

-- in the order in which they are tried
abbrev pub rows : Theory → List Row
rows th =
    not_truth true ∷ not_truth false ∷ not_not
    ∷ left_truth conjunction true itself ∷ left_truth conjunction false (always false)
    ∷ right_truth conjunction true itself ∷ right_truth conjunction false (always false) ∷ alike conjunction itself
    ∷ left_truth disjunction true (always true) ∷ left_truth disjunction false itself
    ∷ right_truth disjunction true (always true) ∷ right_truth disjunction false itself ∷ alike disjunction itself
    ∷ left_truth implication true itself ∷ left_truth implication false (always true)
    ∷ right_truth implication true (always true) ∷ right_truth implication false denied ∷ alike implication (always true)
    ∷ if_truth true ∷ if_truth false ∷ if_same ∷ let_sub
    ∷ case_by (from_constructor th) ∷ case_by from_successor ∷ case_by from_literal
    ∷ unfold_def th ∷ unfold_by (from_constructor th) th ∷ unfold_by from_successor th ∷ unfold_by from_literal th
    ∷ alike equality (always true) ∷ eq_con ∷ eq_con_diff ∷ literals equality (λ m n. only_if (not (nat_eq m n)) (truth false))
    ∷ eq_suc ∷ eq_zero_suc ∷ eq_suc_lit ∷ eq_truth true itself ∷ eq_truth false denied
    ∷ suc_lit ∷ literals plus (λ m n. small (m + n)) ∷ literals minus (λ m n. small (m - n)) ∷ literals times (λ m n. small (m * n))
    ∷ literals divide (λ m n. small (quotient m n)) ∷ literals modulo (λ m n. small (remainder m n))
    ∷ alike less (always false) ∷ literals less (λ m n. Some (truth (nat_lt m n)))
    ∷ alike less_equal (always true) ∷ literals less_equal (λ m n. Some (truth (nat_le m n))) ∷ []

-- what row `s`, from 1, makes of a term
abbrev pub row : Theory → ℕ → Tree → Option Tree
row th s t = and_then (numbered (rows th) s) (λ f. f t)

abbrev pub first_from : ℕ → Option Tree → Option (ℕ × Tree) → Option (ℕ × Tree)
first_from s (Some u) o = Some (s, u)
first_from s None o = o

-- the number of the first row that applies, and what it makes of the term
abbrev pub first_of : ℕ → List Row → Tree → Option (ℕ × Tree)
first_of s [] t = None
first_of s (f ∷ fs) t = first_from s (f t) (first_of (suc s) fs t)

abbrev pub first : Theory → Tree → Option (ℕ × Tree)
first th t = first_of 1 (rows th) t

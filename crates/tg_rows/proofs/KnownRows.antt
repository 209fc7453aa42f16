-- Each row at a term to which it applies, and at a term close by to which it doesn't, as they are known by hand.
use Rattle.std.proofs.Common.{ℕ, ◌≡◌, true, false, refl, [], ◌∷◌, Option, Some, None}
use Rattle.tg_model.specs.Tree as tree
use Rattle.tg_model.specs.Tree.{Tree, bound, free, literal, truth, con, call, put, choice, case, bind, op, one, two, trees, Operator, successor, negation, conjunction, disjunction, implication, equality, less, less_equal, plus, minus, times, divide, modulo}
use Rattle.tg_model.proofs.KnownValues.{sorting, nil, cons}
use Rattle.tg_rows.specs.Rows.{row, first, equation}

abbrev a : Tree
a = free 1

abbrev b : Tree
b = free 2

abbrev yes_ : Tree
yes_ = truth true

abbrev no_ : Tree
no_ = truth false

abbrev to : ℕ → Tree → Option Tree
to s t = row sorting s t

abbrev not : Tree → Tree
not t = op negation (one t)

abbrev next : Tree → Tree
next t = op successor (one t)

negations : (to 1 (not yes_) ≡ Some no_) × (to 1 (not no_) ≡ None) × (to 2 (not no_) ≡ Some yes_) × (to 2 (not a) ≡ None)
    × (to 3 (not (not a)) ≡ Some a) × (to 3 (not a) ≡ None)
negations = (refl, refl, refl, refl, refl, refl)

conjunctions : (to 4 (op conjunction (two yes_ a)) ≡ Some a) × (to 4 (op conjunction (two no_ a)) ≡ None)
    × (to 5 (op conjunction (two no_ a)) ≡ Some no_) × (to 5 (op disjunction (two no_ a)) ≡ None)
    × (to 6 (op conjunction (two a yes_)) ≡ Some a) × (to 6 (op conjunction (two yes_ a)) ≡ None)
    × (to 7 (op conjunction (two a no_)) ≡ Some no_) × (to 7 (op conjunction (two a yes_)) ≡ None)
    × (to 8 (op conjunction (two a a)) ≡ Some a) × (to 8 (op conjunction (two a b)) ≡ None)
conjunctions = (refl, refl, refl, refl, refl, refl, refl, refl, refl, refl)

disjunctions : (to 9 (op disjunction (two yes_ a)) ≡ Some yes_) × (to 9 (op disjunction (two a yes_)) ≡ None)
    × (to 10 (op disjunction (two no_ a)) ≡ Some a) × (to 10 (op disjunction (two yes_ a)) ≡ None)
    × (to 11 (op disjunction (two a yes_)) ≡ Some yes_) × (to 11 (op disjunction (two a no_)) ≡ None)
    × (to 12 (op disjunction (two a no_)) ≡ Some a) × (to 12 (op conjunction (two a no_)) ≡ None)
    × (to 13 (op disjunction (two a a)) ≡ Some a) × (to 13 (op disjunction (two a b)) ≡ None)
disjunctions = (refl, refl, refl, refl, refl, refl, refl, refl, refl, refl)

implications : (to 14 (op implication (two yes_ a)) ≡ Some a) × (to 14 (op implication (two a yes_)) ≡ None)
    × (to 15 (op implication (two no_ a)) ≡ Some yes_) × (to 15 (op implication (two yes_ a)) ≡ None)
    × (to 16 (op implication (two a yes_)) ≡ Some yes_) × (to 16 (op implication (two a no_)) ≡ None)
    × (to 17 (op implication (two a no_)) ≡ Some (not a)) × (to 17 (op implication (two no_ a)) ≡ None)
    × (to 18 (op implication (two a a)) ≡ Some yes_) × (to 18 (op implication (two a b)) ≡ None)
implications = (refl, refl, refl, refl, refl, refl, refl, refl, refl, refl)

choices : (to 19 (choice (trees (yes_ ∷ a ∷ b ∷ []))) ≡ Some a) × (to 19 (choice (trees (no_ ∷ a ∷ b ∷ []))) ≡ None)
    × (to 20 (choice (trees (no_ ∷ a ∷ b ∷ []))) ≡ Some b) × (to 20 (choice (trees (yes_ ∷ a ∷ b ∷ []))) ≡ None)
    × (to 21 (choice (trees (a ∷ b ∷ b ∷ []))) ≡ Some b) × (to 21 (choice (trees (a ∷ a ∷ b ∷ []))) ≡ None)
choices = (refl, refl, refl, refl, refl, refl)

-- let x = a in (let y = b in x + y), whose inner variable is put in last: a goes under its binder
bindings : (to 22 (bind a (op plus (two (bound 0) (bound 0)))) ≡ Some (op plus (two a a)))
    × (to 22 (bind (bound 0) (bind b (op plus (two (bound 1) (bound 0))))) ≡ Some (bind b (op plus (two (bound 1) (bound 0)))))
    × (to 22 a ≡ None)
bindings = (refl, refl, refl)

-- case .. of {Nil => 0, Cons x xs => x} and case .. of {0 => 7, Suc x => x}
abbrev head : Tree → Tree
head t = case 1 t (tree.arm 0 (literal 0) (tree.arm 2 (bound 1) tree.end))

abbrev before : Tree → Tree
before t = case 0 t (tree.arm 0 (literal 7) (tree.arm 1 (bound 0) tree.end))

cases : (to 23 (head (cons a nil)) ≡ Some a) × (to 23 (head nil) ≡ Some (literal 0)) × (to 23 (head a) ≡ None)
    × (to 24 (before (next a)) ≡ Some a) × (to 24 (before (literal 1)) ≡ None)
    × (to 25 (before (literal 0)) ≡ Some (literal 7)) × (to 25 (before (literal 5)) ≡ Some (literal 4)) × (to 25 (before a) ≡ None)
cases = (refl, refl, refl, refl, refl, refl, refl, refl)

-- double a, len (Cons a Nil), sum (Suc a) and sum 3
calls : (to 26 (call 4 (one a)) ≡ Some (op plus (two a a))) × (to 26 (call 3 (one a)) ≡ None)
    × (to 27 (call 5 (one (cons a nil))) ≡ Some (next (call 5 (one nil)))) × (to 27 (call 5 (one nil)) ≡ Some (literal 0)) × (to 27 (call 5 (one a)) ≡ None)
    × (to 28 (call 3 (one (next a))) ≡ Some (op plus (two (next a) (call 3 (one a))))) × (to 28 (call 3 (one (literal 3))) ≡ None)
    × (to 29 (call 3 (one (literal 3))) ≡ Some (op plus (two (next (literal 2)) (call 3 (one (literal 2))))))
    × (to 29 (call 3 (one (literal 0))) ≡ Some (literal 0)) × (to 29 (call 3 (one a)) ≡ None)
calls = (refl, refl, refl, refl, refl, refl, refl, refl, refl, refl)

equations : (to 30 (equation a a) ≡ Some yes_) × (to 30 (equation a b) ≡ None)
    × (to 31 (equation (cons a b) (cons b a)) ≡ Some (op conjunction (two (equation a b) (equation b a)))) × (to 31 (equation nil nil) ≡ None)
    × (to 31 (equation (con 5 (one a)) (con 5 (one b))) ≡ Some (equation a b)) × (to 31 (equation nil (cons a b)) ≡ None)
    × (to 32 (equation nil (cons a b)) ≡ Some no_) × (to 32 (equation (cons a b) (cons b a)) ≡ None)
    × (to 33 (equation (literal 1) (literal 2)) ≡ Some no_) × (to 33 (equation (literal 1) (literal 1)) ≡ None)
equations = (refl, refl, refl, refl, refl, refl, refl, refl, refl, refl)

successors : (to 34 (equation (next a) (next b)) ≡ Some (equation a b)) × (to 34 (equation (next a) (literal 1)) ≡ None)
    × (to 35 (equation (literal 0) (next a)) ≡ Some no_) × (to 35 (equation (next a) (literal 0)) ≡ Some no_) × (to 35 (equation (literal 1) (next a)) ≡ None)
    × (to 36 (equation (next a) (literal 3)) ≡ Some (equation a (literal 2))) × (to 36 (equation (literal 3) (next a)) ≡ Some (equation (literal 2) a))
    × (to 36 (equation (next a) (literal 0)) ≡ None)
successors = (refl, refl, refl, refl, refl, refl, refl, refl)

with_truths : (to 37 (equation a yes_) ≡ Some a) × (to 37 (equation yes_ a) ≡ Some a) × (to 37 (equation a no_) ≡ None)
    × (to 38 (equation a no_) ≡ Some (not a)) × (to 38 (equation no_ a) ≡ Some (not a)) × (to 38 (equation a yes_) ≡ None)
with_truths = (refl, refl, refl, refl, refl, refl)

-- what would be 2^64 or more isn't made
numbers : (to 39 (next (literal 4)) ≡ Some (literal 5)) × (to 39 (next (literal 18446744073709551615)) ≡ None) × (to 39 (next a) ≡ None)
    × (to 40 (op plus (two (literal 7) (literal 5))) ≡ Some (literal 12)) × (to 40 (op plus (two (literal 18446744073709551615) (literal 1))) ≡ None)
    × (to 41 (op minus (two (literal 7) (literal 5))) ≡ Some (literal 2)) × (to 41 (op minus (two (literal 5) (literal 7))) ≡ Some (literal 0))
    × (to 42 (op times (two (literal 7) (literal 5))) ≡ Some (literal 35)) × (to 42 (op times (two (literal 4294967296) (literal 4294967296))) ≡ None)
    × (to 43 (op divide (two (literal 7) (literal 2))) ≡ Some (literal 3)) × (to 43 (op divide (two (literal 7) (literal 0))) ≡ Some (literal 0))
    × (to 44 (op modulo (two (literal 7) (literal 2))) ≡ Some (literal 1)) × (to 44 (op modulo (two (literal 7) (literal 0))) ≡ Some (literal 7))
    × (to 40 (op plus (two a (literal 0))) ≡ None)
numbers = (refl, refl, refl, refl, refl, refl, refl, refl, refl, refl, refl, refl, refl, refl)

comparisons : (to 45 (op less (two a a)) ≡ Some no_) × (to 45 (op less (two a b)) ≡ None)
    × (to 46 (op less (two (literal 2) (literal 3))) ≡ Some yes_) × (to 46 (op less (two (literal 3) (literal 3))) ≡ Some no_)
    × (to 47 (op less_equal (two a a)) ≡ Some yes_) × (to 47 (op less (two a a)) ≡ None)
    × (to 48 (op less_equal (two (literal 3) (literal 3))) ≡ Some yes_) × (to 48 (op less_equal (two (literal 4) (literal 3))) ≡ Some no_)
comparisons = (refl, refl, refl, refl, refl, refl, refl, refl)

-- the first row that applies; there is no row 0 and no row 49
order : (first sorting (op conjunction (two yes_ yes_)) ≡ Some (4, yes_)) × (first sorting (equation yes_ yes_) ≡ Some (30, yes_))
    × (first sorting (equation a yes_) ≡ Some (37, a)) × (first sorting (call 1 (two a b)) ≡ None) × (to 0 (not yes_) ≡ None) × (to 49 (not yes_) ≡ None)
order = (refl, refl, refl, refl, refl, refl)

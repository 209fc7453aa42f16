-- Clauses that are known by hand. `?1` to `?4` are truth values, and `?5 < ?6` compares naturals.
use Rattle.std.proofs.Common.{◌≡◌, true, false, refl, [], ◌∷◌}
use Rattle.tg_model.specs.Tree.{Tree, free, truth, put, op, one, two, negation, conjunction, disjunction, implication, equality, less}
use Rattle.tg_clause.specs.Clauses.{said, most_clauses, clauses_of, fits}
use Rattle.tg_clause.specs.Minimal.{minimised}
use Rattle.tg_clause.specs.Classes.{constraints_of, checks_of}

abbrev p : Tree
p = free 1

abbrev q : Tree
q = free 2

abbrev r : Tree
r = free 3

abbrev s : Tree
s = free 4

abbrev compared : Tree
compared = op less (two (free 5) (free 6))

abbrev not_ : Tree → Tree
not_ t = op negation (one t)

abbrev and_ : Tree → Tree → Tree
and_ t u = op conjunction (two t u)

abbrev or_ : Tree → Tree → Tree
or_ t u = op disjunction (two t u)

truths : (clauses_of (truth true) ≡ []) × (clauses_of (truth false) ≡ [] ∷ []) × (clauses_of p ≡ (said true p ∷ []) ∷ [])
truths = (refl, refl, refl)

connectives : (clauses_of (not_ p) ≡ (said false p ∷ []) ∷ [])
    × (clauses_of (and_ p q) ≡ (said true p ∷ []) ∷ (said true q ∷ []) ∷ []) × (clauses_of (or_ p q) ≡ (said true p ∷ said true q ∷ []) ∷ [])
    × (clauses_of (op implication (two p q)) ≡ (said false p ∷ said true q ∷ []) ∷ [])
    × (clauses_of (not_ (op implication (two p q))) ≡ (said true p ∷ []) ∷ (said false q ∷ []) ∷ [])
    × (clauses_of (not_ (and_ p q)) ≡ (said false p ∷ said false q ∷ []) ∷ []) × (clauses_of (not_ (or_ p q)) ≡ (said false p ∷ []) ∷ (said false q ∷ []) ∷ [])
connectives = (refl, refl, refl, refl, refl, refl, refl)

-- an equation is taken apart where a side is seen to be a truth value
equations : (clauses_of (op equality (two p q)) ≡ (said true (op equality (two p q)) ∷ []) ∷ [])
    × (clauses_of (op equality (two p compared)) ≡ (said false p ∷ said true compared ∷ []) ∷ (said false compared ∷ said true p ∷ []) ∷ [])
    × (clauses_of (not_ (op equality (two compared p))) ≡ (said true compared ∷ said true p ∷ []) ∷ (said false compared ∷ said false p ∷ []) ∷ [])
equations = (refl, refl, refl)

-- the first factor is the slowest, a literal stands once, and a tautology is left out
products : (clauses_of (or_ (and_ p q) (and_ r s))
    ≡ (said true p ∷ said true r ∷ []) ∷ (said true p ∷ said true s ∷ []) ∷ (said true q ∷ said true r ∷ []) ∷ (said true q ∷ said true s ∷ []) ∷ [])
    × (clauses_of (or_ p p) ≡ (said true p ∷ []) ∷ []) × (clauses_of (or_ p (or_ q p)) ≡ (said true p ∷ said true q ∷ []) ∷ [])
    × (clauses_of (or_ p (not_ p)) ≡ []) × (clauses_of (and_ (or_ p (or_ q (not_ p))) q) ≡ (said true q ∷ []) ∷ [])
products = (refl, refl, refl, refl, refl)

limits : (most_clauses ≡ 4096) × (fits (or_ (and_ p q) (and_ r s)) ≡ true)
limits = (refl, refl)

minimal : (minimised ((said true p ∷ []) ∷ (said true p ∷ said true q ∷ []) ∷ []) ≡ (said true p ∷ []) ∷ [])
    × (minimised ((said true p ∷ said true q ∷ []) ∷ (said true q ∷ []) ∷ []) ≡ (said true q ∷ []) ∷ [])
    × (minimised ((said true p ∷ said true q ∷ []) ∷ (said true q ∷ said true p ∷ []) ∷ []) ≡ (said true p ∷ said true q ∷ []) ∷ [])
    × (minimised ((said true p ∷ []) ∷ (said false p ∷ said true q ∷ []) ∷ []) ≡ (said true p ∷ []) ∷ (said false p ∷ said true q ∷ []) ∷ [])
    × (minimised ((said true p ∷ []) ∷ [] ∷ []) ≡ [] ∷ [])
minimal = (refl, refl, refl, refl, refl)

-- a literal without a program call is a constraint by its negation, another a check by itself
classes : (constraints_of (said false p ∷ said true (put (one q)) ∷ said true r ∷ []) ≡ p ∷ not_ r ∷ [])
    × (checks_of (said false p ∷ said true (put (one q)) ∷ said false (not_ (put (one r))) ∷ []) ≡ put (one q) ∷ not_ (not_ (put (one r))) ∷ [])
    × (constraints_of [] ≡ []) × (checks_of [] ≡ [])
classes = (refl, refl, refl, refl)

-- Hypotheses that are known by hand.
use Rattle.std.proofs.Common.{ℕ, ◌≡◌, [], ◌∷◌, true, false, refl, Some, None, List}
use Rattle.tg_model.specs.Tree as tree
use Rattle.tg_model.specs.Tree.{Tree, Trees, Operator, bound, free, literal, truth, con, put, bind, op, one, two, disjunction, implication, less, equality}
use Rattle.tg_model.specs.Types as types
use Rattle.tg_model.specs.Types.{Ty, nat, bool, parameter, meta, applied}
use Rattle.tg_model.specs.Value as value
use Rattle.tg_model.specs.Value.{number, boolean, made}
use Rattle.tg_model.specs.Formula.{Formula, atom, both, implies, all, some, thyp, tested, deep}
use Rattle.tg_model.specs.Theory.{Theory}
use Rattle.tg_hyps.specs.Written.{term_of}
use Rattle.tg_hyps.specs.Hypotheses.{Class, test_of, open_class_of, uniformity_of, some_of, some_data, regularity_of, conclusion_of}

-- a natural `?1` and a truth value `?2`, with `?1 < 3` and `?2`, and two checks
abbrev pair_class : Class
pair_class = record {
  inputs = two (con 2 (one (free 1))) (free 2);
  variables = nat ∷ bool ∷ [];
  constraints = op less (two (free 1) (literal 3)) ∷ free 2 ∷ [];
  checks = op less (two (free 1) (put (two (con 2 (one (free 1))) (free 2)))) ∷ free 2 ∷ [];
}

-- the first variable is bound by the outermost quantifier, and constraints come in their order
open_pair : open_class_of pair_class
    ≡ all nat (all bool (implies (tested (two (con 2 (one (bound 1))) (bound 0)))
    (implies (atom (op less (two (bound 1) (literal 3)))) (implies (atom (bound 0))
    (atom (op disjunction (two (op less (two (bound 1) (put (two (con 2 (one (bound 1))) (bound 0))))) (bound 0))))))))
open_pair = refl

-- on the left of uniformity the same stands with conjunctions below existence; the open class is on the right
uniform_pair : uniformity_of pair_class
    ≡ thyp (implies
    (some nat (some bool (both (tested (two (con 2 (one (bound 1))) (bound 0)))
    (both (atom (op less (two (bound 1) (literal 3)))) (both (atom (bound 0))
    (atom (op disjunction (two (op less (two (bound 1) (put (two (con 2 (one (bound 1))) (bound 0))))) (bound 0)))))))))
    (open_class_of pair_class))
uniform_pair = refl

-- the first value is that of `?1`; constraints aren't in a test, and nothing is evaluated
test_pair : test_of pair_class (number 7 ∷ boolean true ∷ [])
    ≡ both (tested (two (con 2 (one (literal 7))) (truth true)))
    (atom (op disjunction (two (op less (two (literal 7) (put (two (con 2 (one (literal 7))) (truth true))))) (truth true))))
test_pair = refl

-- a class with neither variable nor constraint nor check
abbrev bare_class : Class
bare_class = record { inputs = one (con 1 tree.none); variables = []; constraints = []; checks = [] }

open_bare : open_class_of bare_class ≡ implies (tested (one (con 1 tree.none))) (atom (truth false))
open_bare = refl

uniform_bare : uniformity_of bare_class ≡ thyp (implies (both (tested (one (con 1 tree.none))) (atom (truth false))) (open_class_of bare_class))
uniform_bare = refl

test_bare : test_of bare_class [] ≡ both (tested (one (con 1 tree.none))) (atom (truth false))
test_bare = refl

-- a single check stays as it is, and more are grouped to the right
known_checks : (some_of (free 1 ∷ []) ≡ free 1)
    × (some_of (free 1 ∷ free 2 ∷ free 3 ∷ []) ≡ op disjunction (two (free 1) (op disjunction (two (free 2) (free 3)))))
known_checks = (refl, refl)

-- a constructor's arguments are in their order
known_term : term_of (made 2 (value.more (number 4) (value.more (made 1 value.none) value.none))) ≡ con 2 (two (literal 4) (con 1 tree.none))
known_term = refl

-- a program of a list and a natural
abbrev list_of_nat : Ty
list_of_nat = applied 1 (types.more nat types.none)

abbrev holds_of : Tree → Tree → Tree
holds_of xs n = op equality (two (put (two xs n)) (bind n (op less (two n (bound 0)))))

abbrev theory_of : List Ty → Theory
theory_of inputs = record {
  name = [];
  datatypes = [];
  functions = [];
  program = record { name = []; inputs = inputs; answer = bool };
  specification = holds_of (free 1) (free 2);
}

-- the specification as it is written: the variables of a `let` in it are its own
abbrev specified : Formula
specified = atom (op equality (two (put (two (bound 1) (bound 0))) (bind (bound 0) (op less (two (bound 1) (bound 0))))))

concluded : conclusion_of (theory_of (list_of_nat ∷ nat ∷ [])) ≡ all list_of_nat (all nat (implies (tested (two (bound 1) (bound 0))) specified))
concluded = refl

-- `deep` has the depth and all inputs, also those that aren't of a datatype; it comes behind `tested`
regular : regularity_of (theory_of (list_of_nat ∷ nat ∷ [])) 3
    ≡ Some (thyp (all list_of_nat (all nat (implies (tested (two (bound 1) (bound 0))) (implies (deep 3 (two (bound 1) (bound 0))) specified)))))
regular = refl

-- a datatype's type at any place is enough, and without one there is no regularity
regular_at_last : regularity_of (theory_of (nat ∷ list_of_nat ∷ [])) 0
    ≡ Some (thyp (all nat (all list_of_nat (implies (tested (two (bound 1) (bound 0))) (implies (deep 0 (two (bound 1) (bound 0))) specified)))))
regular_at_last = refl

no_regularity : (regularity_of (theory_of (nat ∷ bool ∷ [])) 3 ≡ None) × (some_data [] ≡ false) × (some_data (parameter 1 ∷ meta 1 ∷ []) ≡ false)
no_regularity = (refl, refl, refl)

-- The class of the naturals that stand in a relation to a number, and to which the program's answer stands in a relation:
-- the formulas that the first form of theories is printed with.
abbrev form_class : Operator → Operator → ℕ → Class
form_class o p n = record {
  inputs = one (free 1);
  variables = nat ∷ [];
  constraints = op o (two (free 1) (literal n)) ∷ [];
  checks = op p (two (free 1) (put (one (free 1)))) ∷ [];
}

form_open : (o p : Operator) (n : ℕ) → open_class_of (form_class o p n)
    ≡ all nat (implies (tested (one (bound 0))) (implies (atom (op o (two (bound 0) (literal n)))) (atom (op p (two (bound 0) (put (one (bound 0))))))))
form_open o p n = refl

form_uniformity : (o p : Operator) (n : ℕ) → uniformity_of (form_class o p n)
    ≡ thyp (implies
    (some nat (both (tested (one (bound 0))) (both (atom (op o (two (bound 0) (literal n)))) (atom (op p (two (bound 0) (put (one (bound 0)))))))))
    (open_class_of (form_class o p n)))
form_uniformity o p n = refl

form_test : (o p : Operator) (n m : ℕ) → test_of (form_class o p n) (number m ∷ [])
    ≡ both (tested (one (literal m))) (atom (op p (two (literal m) (put (one (literal m))))))
form_test o p n m = refl

form_conclusion : (o p : Operator) (n : ℕ)
    → conclusion_of (record {
      name = [];
      datatypes = [];
      functions = [];
      program = record { name = []; inputs = nat ∷ []; answer = nat };
      specification = op implication (two (op o (two (free 1) (literal n))) (op p (two (free 1) (put (one (free 1))))));
    })
    ≡ all nat (implies (tested (one (bound 0))) (atom (op implication (two (op o (two (bound 0) (literal n))) (op p (two (bound 0) (put (one (bound 0)))))))))
form_conclusion o p n = refl

-- What is shown of the sides of a term by how it is taken apart.
use Rattle.std.proofs.Common.{◌≡◌, Bool, true, false, refl}
use Rattle.std.specs.Prelude.{if◌then◌else◌}
use Rattle.tg_model.specs.Tree as tree
use Rattle.tg_model.specs.Tree.{Tree, Trees, bound, free, literal, truth, con, call, put, choice, case, bind, op, one, two, Operator, successor, negation, conjunction, disjunction, implication, equality, less, less_equal, plus, minus, times, divide, modulo, unnamed}
use Rattle.tg_clause.specs.Clauses.{Sides, sides, all_sides, turned, of_truth, of_atom, of_conjunction, of_disjunction, of_implication, of_equality, of_operation, some_boolean_shaped}

-- `Q` goes from a term to the operands by which it is taken apart, and `P` from these and their sides to the term and its sides
pub record Fold (Q : Tree → Type 0) (P : Tree → Sides → Type 0) : Type 0 where
  pub atoms : (t : Tree) → Q t → P t (of_atom t)
  pub truths : (b : Bool) → P (truth b) (of_truth b)
  pub negations : (a : Tree) → Q (op negation (one a)) → Q a × ((x : Sides) → P a x → P (op negation (one a)) (turned x))
  pub conjunctions : (a b : Tree) → Q (op conjunction (two a b))
      → Q a × Q b × ((x y : Sides) → P a x → P b y → P (op conjunction (two a b)) (of_conjunction x y))
  pub disjunctions : (a b : Tree) → Q (op disjunction (two a b))
      → Q a × Q b × ((x y : Sides) → P a x → P b y → P (op disjunction (two a b)) (of_disjunction x y))
  pub implications : (a b : Tree) → Q (op implication (two a b))
      → Q a × Q b × ((x y : Sides) → P a x → P b y → P (op implication (two a b)) (of_implication x y))
  pub equations : (a b : Tree) → some_boolean_shaped (two a b) ≡ true → Q (op equality (two a b))
      → Q a × Q b × ((x y : Sides) → P a x → P b y → P (op equality (two a b)) (of_equality x y))

module _ (Q : Tree → Type 0) (P : Tree → Sides → Type 0) (f : Fold Q P) where
  abbrev AllBy : Trees → Type 0
  AllBy tree.none = Unit {0}
  AllBy (tree.more t ts) = (Q t → P t (sides t)) × AllBy ts

  abbrev By : Operator → Trees → Type 0
  By o ts = AllBy ts → Q (op o ts) → P (op o ts) (of_operation o ts (all_sides ts))

  negation_by : (ts : Trees) → By negation ts
  negation_by tree.none h q = f.atoms (op negation tree.none) q
  negation_by (tree.more a tree.none) h q = let r = f.negations a q in r.1 (sides a) (h.0 r.0)
  negation_by (tree.more a (tree.more b ts)) h q = f.atoms (op negation (tree.more a (tree.more b ts))) q

  conjunction_by : (ts : Trees) → By conjunction ts
  conjunction_by tree.none h q = f.atoms (op conjunction tree.none) q
  conjunction_by (tree.more a tree.none) h q = f.atoms (op conjunction (one a)) q
  conjunction_by (tree.more a (tree.more b tree.none)) h q = let r = f.conjunctions a b q in r.2 (sides a) (sides b) (h.0 r.0) (h.1.0 r.1)
  conjunction_by (tree.more a (tree.more b (tree.more c ts))) h q = f.atoms (op conjunction (tree.more a (tree.more b (tree.more c ts)))) q

  disjunction_by : (ts : Trees) → By disjunction ts
  disjunction_by tree.none h q = f.atoms (op disjunction tree.none) q
  disjunction_by (tree.more a tree.none) h q = f.atoms (op disjunction (one a)) q
  disjunction_by (tree.more a (tree.more b tree.none)) h q = let r = f.disjunctions a b q in r.2 (sides a) (sides b) (h.0 r.0) (h.1.0 r.1)
  disjunction_by (tree.more a (tree.more b (tree.more c ts))) h q = f.atoms (op disjunction (tree.more a (tree.more b (tree.more c ts)))) q

  implication_by : (ts : Trees) → By implication ts
  implication_by tree.none h q = f.atoms (op implication tree.none) q
  implication_by (tree.more a tree.none) h q = f.atoms (op implication (one a)) q
  implication_by (tree.more a (tree.more b tree.none)) h q = let r = f.implications a b q in r.2 (sides a) (sides b) (h.0 r.0) (h.1.0 r.1)
  implication_by (tree.more a (tree.more b (tree.more c ts))) h q = f.atoms (op implication (tree.more a (tree.more b (tree.more c ts)))) q

  -- an equation is taken apart where a side is seen to be a truth value
  equation_by : (a b : Tree) (c : Bool) → some_boolean_shaped (two a b) ≡ c → (Q a → P a (sides a)) → (Q b → P b (sides b)) → Q (op equality (two a b))
      → P (op equality (two a b)) (if c then of_equality (sides a) (sides b) else of_atom (op equality (two a b)))
  equation_by a b true e h k q = let r = f.equations a b e q in r.2 (sides a) (sides b) (h r.0) (k r.1)
  equation_by a b false e h k q = f.atoms (op equality (two a b)) q

  equality_by : (ts : Trees) → By equality ts
  equality_by tree.none h q = f.atoms (op equality tree.none) q
  equality_by (tree.more a tree.none) h q = f.atoms (op equality (one a)) q
  equality_by (tree.more a (tree.more b tree.none)) h q = equation_by a b (some_boolean_shaped (two a b)) refl h.0 h.1.0 q
  equality_by (tree.more a (tree.more b (tree.more c ts))) h q = f.atoms (op equality (tree.more a (tree.more b (tree.more c ts)))) q

  operation_by : (o : Operator) (ts : Trees) → By o ts
  operation_by negation ts h q = negation_by ts h q
  operation_by conjunction ts h q = conjunction_by ts h q
  operation_by disjunction ts h q = disjunction_by ts h q
  operation_by implication ts h q = implication_by ts h q
  operation_by equality ts h q = equality_by ts h q
  operation_by successor ts h q = f.atoms (op successor ts) q
  operation_by less ts h q = f.atoms (op less ts) q
  operation_by less_equal ts h q = f.atoms (op less_equal ts) q
  operation_by plus ts h q = f.atoms (op plus ts) q
  operation_by minus ts h q = f.atoms (op minus ts) q
  operation_by times ts h q = f.atoms (op times ts) q
  operation_by divide ts h q = f.atoms (op divide ts) q
  operation_by modulo ts h q = f.atoms (op modulo ts) q
  operation_by (unnamed n) ts h q = f.atoms (op (unnamed n) ts) q

  mutual
    pub sides_by : (t : Tree) → Q t → P t (sides t)
    sides_by (truth b) q = f.truths b
    sides_by (op o ts) q = operation_by o ts (all_by ts) q
    sides_by (bound k) q = f.atoms (bound k) q
    sides_by (free n) q = f.atoms (free n) q
    sides_by (literal n) q = f.atoms (literal n) q
    sides_by (con c ts) q = f.atoms (con c ts) q
    sides_by (call g ts) q = f.atoms (call g ts) q
    sides_by (put ts) q = f.atoms (put ts) q
    sides_by (choice ts) q = f.atoms (choice ts) q
    sides_by (case d t arms) q = f.atoms (case d t arms) q
    sides_by (bind t body) q = f.atoms (bind t body) q

    all_by : (ts : Trees) → AllBy ts
    all_by tree.none = tt
    all_by (tree.more t ts) = (λ q. sides_by t q, all_by ts)

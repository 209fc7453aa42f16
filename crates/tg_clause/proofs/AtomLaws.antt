-- What the operands of a term inherit from it holds of all atoms of its clauses.
use Rattle.std.proofs.Common.{◌≡◌, ◌||◌, Bool, true, false, not, List, ◌++◌, map}
use Rattle.std.specs.List.{filter}
use Rattle.tg_model.specs.Tree.{Tree, Trees, op, one, two, negation, conjunction, disjunction, implication, equality}
use Rattle.tg_model.specs.Types.{Ty, bool}
use Rattle.tg_model.specs.Theory.{Theory}
use Rattle.tg_model.specs.TermTyping.{IsTyped}
use Rattle.tg_model.specs.Calls.{has_call, EachPut}
use Rattle.tg_model.proofs.Booleans.{or_left_false, or_right_false}
use Rattle.tg_accept.specs.Checks.{Each}
use Rattle.tg_rows.specs.Laws.{HaveValues}
use Rattle.tg_clause.specs.declared.literals.Literal.{Literal}
use Rattle.tg_clause.specs.Clauses.{Clause, Sides, sides, clauses_of, has, joined, product, is_tautology, turned, of_truth, of_conjunction, of_disjunction, of_equality, some_boolean_shaped}
use Rattle.tg_clause.specs.Laws.{AtomsOf, AtomsAreTyped, AtomsHaveNoCall, AtomsKeepInputs}
use Rattle.tg_clause.proofs.EachLaws.{each_on, each_append, each_map, each_flat_map, each_filter}
use Rattle.tg_clause.proofs.OperandTypes.{operand, operands, sides_of_equation, conjunction_takes, disjunction_takes, implication_takes}
use Rattle.tg_clause.proofs.SideFold.{Fold, sides_by}

-- `Q` goes from a term to the operands by which it is taken apart
pub record Parts (Q : Tree → Type 0) : Type 0 where
  pub negations : (a : Tree) → Q (op negation (one a)) → Q a
  pub conjunctions : (a b : Tree) → Q (op conjunction (two a b)) → Q a × Q b
  pub disjunctions : (a b : Tree) → Q (op disjunction (two a b)) → Q a × Q b
  pub implications : (a b : Tree) → Q (op implication (two a b)) → Q a × Q b
  pub equations : (a b : Tree) → some_boolean_shaped (two a b) ≡ true → Q (op equality (two a b)) → Q a × Q b

module _ (Q : Tree → Type 0) where
  abbrev All : List Clause → Type 0
  All cs = Each (AtomsOf Q) cs

  pub record OnSides (s : Sides) : Type 0 where
    pub positive : Each (AtomsOf Q) s.positive.list
    pub negative : Each (AtomsOf Q) s.negative.list

  pub joined_atoms : (c d : Clause) → AtomsOf Q c → AtomsOf Q d → AtomsOf Q (joined c d)
  joined_atoms c d h k =
      each_append (λ (l : Literal). Q l.atom) c (filter (λ l. not (has c l)) d) h
      (each_filter (λ (l : Literal). Q l.atom) (λ l. not (has c l)) d
      (each_on (λ (l : Literal). Q l.atom) (λ (l : Literal). not (has c l) ≡ true → Q l.atom) (λ l q e. q) d k))

  pub product_atoms : (cs ds : List Clause) → Each (AtomsOf Q) cs → Each (AtomsOf Q) ds → Each (AtomsOf Q) (product cs ds)
  product_atoms cs ds h k =
      each_flat_map (AtomsOf Q) (λ c. map (joined c) ds) cs
      (each_on (AtomsOf Q) (λ c. All (map (joined c) ds))
      (λ c q. each_map (AtomsOf Q) (joined c) ds (each_on (AtomsOf Q) (λ d. AtomsOf Q (joined c d)) (λ d r. joined_atoms c d q r) ds k)) cs h)

  beside_atoms : (cs ds : List Clause) → All cs → All ds → All (cs ++ ds)
  beside_atoms cs ds h k = each_append (AtomsOf Q) cs ds h k

  turned_atoms : (s : Sides) → OnSides s → OnSides (turned s)
  turned_atoms s h = record { positive = h.negative; negative = h.positive }

  conjunction_atoms : (s r : Sides) → OnSides s → OnSides r → OnSides (of_conjunction s r)
  conjunction_atoms s r h k = record {
    positive = beside_atoms s.positive.list r.positive.list h.positive k.positive;
    negative = product_atoms s.negative.list r.negative.list h.negative k.negative;
  }

  disjunction_atoms : (s r : Sides) → OnSides s → OnSides r → OnSides (of_disjunction s r)
  disjunction_atoms s r h k =
      turned_atoms (of_conjunction (turned s) (turned r)) (conjunction_atoms (turned s) (turned r) (turned_atoms s h) (turned_atoms r k))

  equality_atoms : (s r : Sides) → OnSides s → OnSides r → OnSides (of_equality s r)
  equality_atoms s r h k = record {
    positive = beside_atoms (product s.negative.list r.positive.list) (product r.negative.list s.positive.list)
        (product_atoms s.negative.list r.positive.list h.negative k.positive) (product_atoms r.negative.list s.positive.list k.negative h.positive);
    negative = beside_atoms (product s.positive.list r.positive.list) (product s.negative.list r.negative.list)
        (product_atoms s.positive.list r.positive.list h.positive k.positive) (product_atoms s.negative.list r.negative.list h.negative k.negative);
  }

  truth_atoms : (b : Bool) → OnSides (of_truth b)
  truth_atoms true = record { positive = tt; negative = (tt, tt) }
  truth_atoms false = record { positive = (tt, tt); negative = tt }

  module _ (parts : Parts Q) where
    atom_fold : Fold Q (λ t s. OnSides s)
    atom_fold = record {
      atoms = λ t q. record { positive = ((q, tt), tt); negative = ((q, tt), tt) };
      truths = truth_atoms;
      negations = λ a q. (parts.negations a q, λ x h. turned_atoms x h);
      conjunctions = λ a b q. let r = parts.conjunctions a b q in (r.0, r.1, λ x y h k. conjunction_atoms x y h k);
      disjunctions = λ a b q. let r = parts.disjunctions a b q in (r.0, r.1, λ x y h k. disjunction_atoms x y h k);
      implications = λ a b q. let r = parts.implications a b q in (r.0, r.1, λ x y h k. disjunction_atoms (turned x) y (turned_atoms x h) k);
      equations = λ a b e q. let r = parts.equations a b e q in (r.0, r.1, λ x y h k. equality_atoms x y h k);
    }

    pub sides_atoms : (t : Tree) → Q t → OnSides (sides t)
    sides_atoms t q = sides_by Q (λ t s. OnSides s) atom_fold t q

    pub clauses_atoms : (t : Tree) → Q t → Each (AtomsOf Q) (clauses_of t)
    clauses_atoms t q =
        each_filter (AtomsOf Q) (λ c. not (is_tautology c)) (sides t).positive.list
        (each_on (AtomsOf Q) (λ c. not (is_tautology c) ≡ true → AtomsOf Q c) (λ c h e. h) (sides t).positive.list (sides_atoms t q).positive)

pub typed_parts : (th : Theory) (vars locs : List Ty) → Parts (λ a. IsTyped th vars locs a bool)
typed_parts th vars locs = record {
  negations = operand th vars locs;
  conjunctions = λ a b. operands th vars locs conjunction a b (conjunction_takes th vars locs);
  disjunctions = λ a b. operands th vars locs disjunction a b (disjunction_takes th vars locs);
  implications = λ a b. operands th vars locs implication a b (implication_takes th vars locs);
  equations = sides_of_equation th vars locs;
}

none_of_two : (a b : Bool) → (a || (b || false)) ≡ false → (a ≡ false) × (b ≡ false)
none_of_two a b e = (or_left_false a (b || false) e, or_left_false b false (or_right_false a (b || false) e))

pub callless_parts : Parts (λ a. has_call a ≡ false)
callless_parts = record {
  negations = λ a e. or_left_false (has_call a) false e;
  conjunctions = λ a b e. none_of_two (has_call a) (has_call b) e;
  disjunctions = λ a b e. none_of_two (has_call a) (has_call b) e;
  implications = λ a b e. none_of_two (has_call a) (has_call b) e;
  equations = λ a b s e. none_of_two (has_call a) (has_call b) e;
}

pub put_parts : (P : Trees → Type 0) → Parts (EachPut P)
put_parts P = record {
  negations = λ a h. h.0;
  conjunctions = λ a b h. (h.0, h.1.0);
  disjunctions = λ a b h. (h.0, h.1.0);
  implications = λ a b h. (h.0, h.1.0);
  equations = λ a b s h. (h.0, h.1.0);
}

pub atoms_are_typed : AtomsAreTyped
atoms_are_typed th vars locs t h = clauses_atoms (λ a. IsTyped th vars locs a bool) (typed_parts th vars locs) t h

pub atoms_have_no_call : AtomsHaveNoCall
atoms_have_no_call t h = clauses_atoms (λ a. has_call a ≡ false) callless_parts t h

pub atoms_keep_inputs : AtomsKeepInputs
atoms_keep_inputs th tb env d t h = clauses_atoms (EachPut (HaveValues th tb env d)) (put_parts (HaveValues th tb env d)) t h

-- The limited value doesn't depend on the name of a theory.
use Rattle.std.proofs.Common.{ℕ, zero, suc, ◌≡◌, Bool, true, false, List, [], ◌∷◌, ◌++◌, Option, Some, None, refl, ap, ◌∙◌}
use Rattle.std.specs.Option.{option_map_or}
use Rattle.tg_model.specs.Tree as tree
use Rattle.tg_model.specs.Tree.{Tree, Trees, Arms, bound, free, literal, truth, con, call, put, choice, case, bind, op, Operator, negation, conjunction, disjunction, implication, successor, equality, less, less_equal, plus, minus, times, divide, modulo, unnamed}
use Rattle.tg_model.specs.Value.{Value, number, boolean, made, values}
use Rattle.tg_model.specs.Theory.{Function, Body, plain, recursive, numbered, first_constructor}
use Rattle.tg_model.specs.Denotation.{operated, opened, others, place_of, datatype_of_place}
use Rattle.tg_accept.specs.Declared.{Declared, theory}
use Rattle.tg_eval.specs.Limited.{Outcome, Evaluator, then_value, then_values, then_more, below_bound, small_enough, all_by, case_by, body_by, called_by, chosen_by, branch_by, opened_by, operated_by, level_by, limited}

module _ (x y : List ℕ) (D : Declared) (answer : Value) (ev : Evaluator) where
  all_same : (left : ℕ) (env loc : List Value) (ts : Trees)
      → all_by (theory x D) answer ev left env loc ts ≡ all_by (theory y D) answer ev left env loc ts
  all_same left env loc tree.none = refl
  all_same left env loc (tree.more t ts) = λ i. then_more (ev left env loc t) (λ rest. all_same rest env loc ts i)

  case_same : (left : ℕ) (rest : List Value) (cases : List Tree) (o : Option (ℕ × List Value))
      → case_by (theory x D) answer ev left rest cases o ≡ case_by (theory y D) answer ev left rest cases o
  case_same left rest cases None = refl
  case_same left rest cases (Some p) = refl

  body_same : (left : ℕ) (vs : List Value) (f : Function) (b : Body) → body_by (theory x D) answer ev left vs f b ≡ body_by (theory y D) answer ev left vs f b
  body_same left vs f (plain t) = refl
  body_same left vs f (recursive place cases) =
      case_same left (others vs place) cases (opened (datatype_of_place f place) (first_constructor D.datatypes (datatype_of_place f place)) (place_of vs place))

  called_same : (left f : ℕ) (vs : List Value) → called_by (theory x D) answer ev left f vs ≡ called_by (theory y D) answer ev left f vs
  called_same zero f vs = refl
  called_same (suc left) f vs = by (numbered D.functions f)
    where
      by : (o : Option Function) →
          option_map_or (λ (g : Function). body_by (theory x D) answer ev left vs g g.body) o (Some (boolean false, left))
          ≡ option_map_or (λ (g : Function). body_by (theory y D) answer ev left vs g g.body) o (Some (boolean false, left))
      by None = refl
      by (Some g) = body_same left vs g g.body

  chosen_same : (left : ℕ) (env loc : List Value) (v : Value) (t u : Tree)
      → chosen_by (theory x D) answer ev left env loc v t u ≡ chosen_by (theory y D) answer ev left env loc v t u
  chosen_same left env loc (boolean true) t u = refl
  chosen_same left env loc (boolean false) t u = refl
  chosen_same left env loc (number n) t u = refl
  chosen_same left env loc (made c vs) t u = refl

  branch_same : (left : ℕ) (env loc : List Value) (k : ℕ) (vs : List Value) (arms : Arms)
      → branch_by (theory x D) answer ev left env loc k vs arms ≡ branch_by (theory y D) answer ev left env loc k vs arms
  branch_same left env loc k vs tree.end = refl
  branch_same left env loc zero vs (tree.arm n body arms) = refl
  branch_same left env loc (suc k) vs (tree.arm n body arms) = branch_same left env loc k vs arms

  opened_same : (left : ℕ) (env loc : List Value) (o : Option (ℕ × List Value)) (arms : Arms)
      → opened_by (theory x D) answer ev left env loc o arms ≡ opened_by (theory y D) answer ev left env loc o arms
  opened_same left env loc None arms = refl
  opened_same left env loc (Some p) arms = branch_same left env loc p.0 p.1 arms

  operated_same : (left : ℕ) (env loc : List Value) (o : Operator) (ts : Trees)
      → operated_by (theory x D) answer ev left env loc o ts ≡ operated_by (theory y D) answer ev left env loc o ts
  operated_same left env loc o ts = λ i. then_values (all_same left env loc ts i) (λ vs rest. below_bound (operated o vs) rest)

  level_same : (left : ℕ) (env loc : List Value) (t : Tree) → level_by (theory x D) answer ev left env loc t ≡ level_by (theory y D) answer ev left env loc t
  level_same left env loc (bound k) = refl
  level_same left env loc (free n) = refl
  level_same left env loc (literal n) = refl
  level_same left env loc (truth b) = refl
  level_same left env loc (con c ts) = λ i. then_values (all_same left env loc ts i) (λ vs rest. small_enough (made c (values vs)) rest)
  level_same left env loc (call f ts) = λ i. then_values (all_same left env loc ts i) (λ vs rest. called_same rest f vs i)
  level_same left env loc (put ts) = λ i. then_values (all_same left env loc ts i) (λ vs rest. Some (answer, rest))
  level_same left env loc (choice tree.none) = refl
  level_same left env loc (choice (tree.more c tree.none)) = refl
  level_same left env loc (choice (tree.more c (tree.more t tree.none))) = refl
  level_same left env loc (choice (tree.more c (tree.more t (tree.more u tree.none)))) =
      λ i. then_value (ev left env loc c) (λ v rest. chosen_same rest env loc v t u i)
  level_same left env loc (choice (tree.more c (tree.more t (tree.more u (tree.more w ts))))) = refl
  level_same left env loc (case d t arms) =
      λ i. then_value (ev left env loc t) (λ v rest. opened_same rest env loc (opened d (first_constructor D.datatypes d) v) arms i)
  level_same left env loc (bind t body) = refl
  level_same left env loc (op o ts) = op_same o ts
    where
      op_same : (o : Operator) (ts : Trees) → level_by (theory x D) answer ev left env loc (op o ts) ≡ level_by (theory y D) answer ev left env loc (op o ts)
      op_same conjunction (tree.more t (tree.more u tree.none)) = refl
      op_same disjunction (tree.more t (tree.more u tree.none)) = refl
      op_same implication (tree.more t (tree.more u tree.none)) = refl
      op_same conjunction tree.none = operated_same left env loc conjunction tree.none
      op_same conjunction (tree.more t tree.none) = operated_same left env loc conjunction (tree.more t tree.none)
      op_same conjunction (tree.more t (tree.more u (tree.more w ts))) = operated_same left env loc conjunction (tree.more t (tree.more u (tree.more w ts)))
      op_same disjunction tree.none = operated_same left env loc disjunction tree.none
      op_same disjunction (tree.more t tree.none) = operated_same left env loc disjunction (tree.more t tree.none)
      op_same disjunction (tree.more t (tree.more u (tree.more w ts))) = operated_same left env loc disjunction (tree.more t (tree.more u (tree.more w ts)))
      op_same implication tree.none = operated_same left env loc implication tree.none
      op_same implication (tree.more t tree.none) = operated_same left env loc implication (tree.more t tree.none)
      op_same implication (tree.more t (tree.more u (tree.more w ts))) = operated_same left env loc implication (tree.more t (tree.more u (tree.more w ts)))
      op_same negation ts = operated_same left env loc negation ts
      op_same successor ts = operated_same left env loc successor ts
      op_same equality ts = operated_same left env loc equality ts
      op_same less ts = operated_same left env loc less ts
      op_same less_equal ts = operated_same left env loc less_equal ts
      op_same plus ts = operated_same left env loc plus ts
      op_same minus ts = operated_same left env loc minus ts
      op_same times ts = operated_same left env loc times ts
      op_same divide ts = operated_same left env loc divide ts
      op_same modulo ts = operated_same left env loc modulo ts
      op_same (unnamed n) ts = operated_same left env loc (unnamed n) ts

pub limited_unnamed : (x y : List ℕ) (D : Declared) (answer : Value) (levels : ℕ) → limited (theory x D) answer levels ≡ limited (theory y D) answer levels
unfolding limited
limited_unnamed x y D answer zero = refl
limited_unnamed x y D answer (suc levels) =
    ap (level_by (theory x D) answer) (limited_unnamed x y D answer levels)
    ∙ (λ i left env loc t. level_same x y D answer (limited (theory y D) answer levels) left env loc t i)

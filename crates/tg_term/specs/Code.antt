-- How the logic stores a tree: as a tree of numbers that gives it back.
use Rattle.std.specs.Prelude.{◌≡◌, ℕ, zero, suc, Bool, true, false, refl}
use Rattle.std.proofs.Common.{ap, sym, ◌∙◌}
use base.Stored.{Gv, gnil, gnum, gcons, Coded}
use Rattle.tg_model.specs.Tree.{Tree, Trees, Arms, bound, free, literal, truth, con, call, put, choice, case, bind, op, none, more, end, arm, Operator, successor, negation, conjunction, disjunction, implication, equality, less, less_equal, plus, minus, times, divide, modulo, unnamed}
use Rattle.tg_term.specs.Operators.{operator, operator_number}

abbrev pub bit : Bool → ℕ
bit false = 0
bit true = 1

-- an operator with a name of its own is stored by its number in a pair, so that it is no `unnamed` one
abbrev pub code_operator : Operator → Gv
code_operator (unnamed n) = gnum n
code_operator o = gcons gnil (gnum (operator_number o))

abbrev pub back_operator : Gv → Operator
back_operator gnil = unnamed 0
back_operator (gnum n) = unnamed n
back_operator (gcons a gnil) = unnamed 0
back_operator (gcons a (gnum n)) = operator n
back_operator (gcons a (gcons b c)) = unnamed 0

pub again_operator : (o : Operator) → back_operator (code_operator o) ≡ o
again_operator successor = refl
again_operator negation = refl
again_operator conjunction = refl
again_operator disjunction = refl
again_operator implication = refl
again_operator equality = refl
again_operator less = refl
again_operator less_equal = refl
again_operator plus = refl
again_operator minus = refl
again_operator times = refl
again_operator divide = refl
again_operator modulo = refl
again_operator (unnamed n) = refl

abbrev mutual
  pub code_tree : Tree → Gv
  code_tree (bound k) = gcons (gnum 0) (gnum k)
  code_tree (free n) = gcons (gnum 1) (gnum n)
  code_tree (literal n) = gcons (gnum 2) (gnum n)
  code_tree (truth b) = gcons (gnum 3) (gnum (bit b))
  code_tree (con c ts) = gcons (gnum 0) (gcons (gnum c) (code_trees ts))
  code_tree (call f ts) = gcons (gnum 1) (gcons (gnum f) (code_trees ts))
  code_tree (put ts) = gcons (gnum 2) (gcons (gnum 0) (code_trees ts))
  code_tree (choice ts) = gcons (gnum 3) (gcons (gnum 0) (code_trees ts))
  code_tree (case d t arms) = gcons (gcons (gnum d) (code_tree t)) (code_arms arms)
  code_tree (bind t body) = gcons (gcons gnil (code_tree t)) (code_tree body)
  code_tree (op o ts) = gcons gnil (gcons (code_operator o) (code_trees ts))

  pub code_trees : Trees → Gv
  code_trees none = gnil
  code_trees (more t ts) = gcons (code_tree t) (code_trees ts)

  pub code_arms : Arms → Gv
  code_arms end = gnil
  code_arms (arm vars body arms) = gcons (gcons (gnum vars) (code_tree body)) (code_arms arms)

abbrev pub leaf : ℕ → ℕ → Tree
leaf zero n = bound n
leaf (suc zero) n = free n
leaf (suc (suc zero)) n = literal n
leaf (suc (suc (suc k))) zero = truth false
leaf (suc (suc (suc k))) (suc n) = truth true

abbrev pub group : ℕ → ℕ → Trees → Tree
group zero n ts = con n ts
group (suc zero) n ts = call n ts
group (suc (suc zero)) n ts = put ts
group (suc (suc (suc k))) n ts = choice ts

abbrev mutual
  pub back_tree : Gv → Tree
  back_tree (gcons (gnum k) (gnum n)) = leaf k n
  back_tree (gcons (gnum k) (gcons (gnum n) ts)) = group k n (back_trees ts)
  back_tree (gcons (gcons (gnum d) t) arms) = case d (back_tree t) (back_arms arms)
  back_tree (gcons (gcons gnil t) body) = bind (back_tree t) (back_tree body)
  back_tree (gcons gnil (gcons o ts)) = op (back_operator o) (back_trees ts)
  back_tree g = bound 0

  pub back_trees : Gv → Trees
  back_trees (gcons t ts) = more (back_tree t) (back_trees ts)
  back_trees g = none

  pub back_arms : Gv → Arms
  back_arms (gcons (gcons (gnum vars) body) arms) = arm vars (back_tree body) (back_arms arms)
  back_arms g = end

mutual
  pub again_tree : (t : Tree) → back_tree (code_tree t) ≡ t
  again_tree (bound k) = refl
  again_tree (free n) = refl
  again_tree (literal n) = refl
  again_tree (truth false) = refl
  again_tree (truth true) = refl
  again_tree (con c ts) = ap (con c) (again_trees ts)
  again_tree (call f ts) = ap (call f) (again_trees ts)
  again_tree (put ts) = ap put (again_trees ts)
  again_tree (choice ts) = ap choice (again_trees ts)
  again_tree (case d t arms) = λ i. case d (again_tree t i) (again_arms arms i)
  again_tree (bind t body) = λ i. bind (again_tree t i) (again_tree body i)
  again_tree (op o ts) = λ i. op (again_operator o i) (again_trees ts i)

  pub again_trees : (ts : Trees) → back_trees (code_trees ts) ≡ ts
  again_trees none = refl
  again_trees (more t ts) = λ i. more (again_tree t i) (again_trees ts i)

  pub again_arms : (arms : Arms) → back_arms (code_arms arms) ≡ arms
  again_arms end = refl
  again_arms (arm vars body arms) = λ i. arm vars (again_tree body i) (again_arms arms i)

abbrev pub coded_tree : Coded Tree
coded_tree = record { code = code_tree; inj = λ t u same. sym (again_tree t) ∙ ap back_tree same ∙ again_tree u }

-- The tree of a node. In a contract the terms of a node are trees already.
use Rattle.std.specs.Prelude.{◌≡◌, ℕ, List, [], ◌∷◌, refl}
use Rattle.std.proofs.Common.{ap, sym, ◌∙◌}
use Rattle.tg_model.specs.Tree.{Tree, Arms, bound, free, literal, truth, con, call, put, choice, case, bind, op, end, arm, trees, elements}
use Rattle.tg_term.specs.Operators.{operator, operator_number, operator_number-operator}
use Rattle.tg_term.specs.declared.terms.Branch.{Branch}
use Rattle.tg_term.specs.declared.terms.Node.{Node}
use Rattle.tg_term.specs.declared.terms.Node.TheVariants.{Bound, Free, Lit, Truth, Con, Call, Put, If, Case, Let, Op}

abbrev pub arms : List Branch → Arms
arms [] = end
arms (b ∷ bs) = arm b.vars b.body (arms bs)

abbrev pub tree : Node → Tree
tree (Bound k) = bound k
tree (Free n) = free n
tree (Lit n) = literal n
tree (Truth b) = truth b
tree (Con c ts) = con c (trees ts)
tree (Call f ts) = call f (trees ts)
tree (Put ts) = put (trees ts)
tree (If ts) = choice (trees ts)
tree (Case d t bs) = case d t (arms bs)
tree (Let t body) = bind t body
tree (Op o ts) = op (operator o) (trees ts)

-- Two nodes with one tree are equal: the tree gives the node back.

abbrev branches : Arms → List Branch
branches end = []
branches (arm vars body arms) = record { vars = vars; body = body } ∷ branches arms

branches-arms : (bs : List Branch) → branches (arms bs) ≡ bs
branches-arms [] = refl
branches-arms (b ∷ bs) = ap (λ rest. b ∷ rest) (branches-arms bs)

pub elements-trees : (ts : List Tree) → elements (trees ts) ≡ ts
elements-trees [] = refl
elements-trees (t ∷ ts) = ap (λ rest. t ∷ rest) (elements-trees ts)

abbrev node_of : Tree → Node
node_of (bound k) = Bound k
node_of (free n) = Free n
node_of (literal n) = Lit n
node_of (truth b) = Truth b
node_of (con c ts) = Con c (elements ts)
node_of (call f ts) = Call f (elements ts)
node_of (put ts) = Put (elements ts)
node_of (choice ts) = If (elements ts)
node_of (case d t arms) = Case d t (branches arms)
node_of (bind t body) = Let t body
node_of (op o ts) = Op (operator_number o) (elements ts)

node_of-tree : (n : Node) → node_of (tree n) ≡ n
node_of-tree (Bound k) = refl
node_of-tree (Free n) = refl
node_of-tree (Lit n) = refl
node_of-tree (Truth b) = refl
node_of-tree (Con c ts) = ap (Con c) (elements-trees ts)
node_of-tree (Call f ts) = ap (Call f) (elements-trees ts)
node_of-tree (Put ts) = ap Put (elements-trees ts)
node_of-tree (If ts) = ap If (elements-trees ts)
node_of-tree (Case d t bs) = ap (Case d t) (branches-arms bs)
node_of-tree (Let t body) = refl
node_of-tree (Op o ts) = λ i. Op (operator_number-operator o i) (elements-trees ts i)

pub tree-inj : (m n : Node) → tree m ≡ tree n → m ≡ n
tree-inj m n same = sym (node_of-tree m) ∙ ap node_of same ∙ node_of-tree n

pub trees-inj : (ts us : List Tree) → trees ts ≡ trees us → ts ≡ us
trees-inj ts us same = sym (elements-trees ts) ∙ ap elements same ∙ elements-trees us

pub arms-inj : (bs cs : List Branch) → arms bs ≡ arms cs → bs ≡ cs
arms-inj bs cs same = sym (branches-arms bs) ∙ ap branches same ∙ branches-arms cs

pub operator-inj : (m n : ℕ) → operator m ≡ operator n → m ≡ n
operator-inj m n same = sym (operator_number-operator m) ∙ ap operator_number same ∙ operator_number-operator n

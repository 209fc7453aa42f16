-- Each term of a node is less high than the node's tree.
use Rattle.std.specs.Prelude.{◌+◌, ◌≤◌, max, List, [], ◌∷◌}
use Rattle.std.proofs.Common.{arith}
use denote.Param.Weighed.{most}
use Rattle.tg_model.specs.Tree.{Tree, trees}
use Rattle.tg_term.specs.Measures.{height, heights, heights_within}
use Rattle.tg_term.specs.View.{tree, arms}
use Rattle.tg_term.specs.declared.terms.Branch.{Branch}
use Rattle.tg_term.specs.declared.terms.Node.{Node}
use Rattle.tg_term.specs.declared.terms.Node.TheVariants.{Bound, Free, Lit, Truth, Con, Call, Put, If, Case, Let, Op}
use Rattle.tg_term.specs.declared.terms.Term.TheDeep.{deep-Node, deep-Branch}

pub most_trees : (ts : List Tree) → most (λ t. height t + 1) ts ≤ heights (trees ts)
most_trees [] = omega arith
most_trees (t ∷ ts) = omega (arith, most_trees ts)

pub most_arms : (bs : List Branch) → most deep-Branch bs ≤ heights_within (arms bs)
most_arms [] = omega arith
most_arms (b ∷ bs) = omega (arith, most_arms bs)

pub falls : (n : Node) → max (max (deep-Node n) 0) 0 ≤ height (tree n)
falls (Bound k) = omega arith
falls (Free n) = omega arith
falls (Lit n) = omega arith
falls (Truth b) = omega arith
falls (Con c ts) = omega (arith, most_trees ts)
falls (Call f ts) = omega (arith, most_trees ts)
falls (Put ts) = omega (arith, most_trees ts)
falls (If ts) = omega (arith, most_trees ts)
falls (Case d t bs) = omega (arith, most_arms bs)
falls (Let t body) = omega arith
falls (Op o ts) = omega (arith, most_trees ts)

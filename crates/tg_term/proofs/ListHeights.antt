-- An element is less high than a list that has it.
use Rattle.std.proofs.Common.{ℕ, zero, suc, ◌<◌, List, [], ◌∷◌, length, get_or, arith}
use Rattle.tg_model.specs.Tree.{Tree, trees}
use Rattle.tg_term.specs.Measures.{height, heights, heights_within}
use Rattle.tg_term.specs.View.{arms}
use Rattle.tg_term.specs.declared.terms.Branch.{Branch}

pub height_at : (ts : List Tree) (i : ℕ) (d : Tree) → i < length ts → height (get_or ts i d) < heights (trees ts)
height_at [] i d h = absurd (omega arith)
height_at (t ∷ ts) zero d h = omega arith
height_at (t ∷ ts) (suc i) d h = let k = height_at ts i d (omega arith) in omega arith

pub branch_height_at : (bs : List Branch) (i : ℕ) (d : Branch) → i < length bs → height (get_or bs i d).body < heights_within (arms bs)
branch_height_at [] i d h = absurd (omega arith)
branch_height_at (b ∷ bs) zero d h = omega arith
branch_height_at (b ∷ bs) (suc i) d h = let k = branch_height_at bs i d (omega arith) in omega arith

-- Operators by their numbers, nodes with the trees that they stand for, and measures of trees.
use Rattle.std.specs.Prelude.{◌≡◌, [], ◌∷◌, true}
use Rattle.std.proofs.Common.{refl}
use Rattle.tg_model.specs.Tree as trees
use Rattle.tg_model.specs.Tree.{Tree, more, none, one, two}
use Rattle.tg_term.specs.Measures.{nodes, height, loose_range, counted}
use Rattle.tg_term.specs.Operators.{operator}
use Rattle.tg_term.specs.View.{tree}
use Rattle.tg_term.specs.declared.terms.Node.TheVariants.{Lit, Con, Put, If, Case, Let, Op}

pub successor_number : operator 1 ≡ trees.successor
successor_number = refl

pub equality_number : operator 6 ≡ trees.equality
equality_number = refl

pub less_equal_number : operator 8 ≡ trees.less_equal
less_equal_number = refl

pub modulo_number : operator 13 ≡ trees.modulo
modulo_number = refl

pub fourteen_names_none : operator 14 ≡ trees.unnamed 14
fourteen_names_none = refl

pub zero_names_none : operator 0 ≡ trees.unnamed 0
zero_names_none = refl

abbrev first : Tree
first = trees.free 1

abbrev zero_literal : Tree
zero_literal = trees.literal 0

-- `0`
pub literal_zero : tree (Lit 0) ≡ zero_literal
literal_zero = refl

-- `?1 <= 0`
pub at_most_zero : tree (Op 8 (first ∷ zero_literal ∷ [])) ≡ trees.op trees.less_equal (two first zero_literal)
at_most_zero = refl

-- `Cons ?1 Nil`, where these are the constructors 2 and 1
pub single : tree (Con 2 (first ∷ trees.con 1 none ∷ [])) ≡ trees.con 2 (two first (trees.con 1 none))
single = refl

-- `put ?1`
pub program_call : tree (Put (first ∷ [])) ≡ trees.put (one first)
program_call = refl

-- `if True then ?1 else 0`
pub true_choice : tree (If (trees.truth true ∷ first ∷ zero_literal ∷ [])) ≡ trees.choice (more (trees.truth true) (two first zero_literal))
true_choice = refl

-- `let x = ?1 in x`
pub bound_once : tree (Let first (trees.bound 0)) ≡ trees.bind first (trees.bound 0)
bound_once = refl

-- `case ?1 of {0 => 0, Suc x => x}`, a case on the naturals
pub predecessor : tree (Case 0 first (record { vars = 0; body = zero_literal } ∷ record { vars = 1; body = trees.bound 0 } ∷ []))
    ≡ trees.case 0 first (trees.arm 0 zero_literal (trees.arm 1 (trees.bound 0) trees.end))
predecessor = refl

pub height-variable : height first ≡ 0
height-variable = refl

pub height-nested : height (trees.op trees.successor (one (trees.op trees.successor (one first)))) ≡ 2
height-nested = refl

-- `case ?1 of {0 => 0, Suc x => x + Suc !2}`, where `!2` is bound outside: its branch is the highest part and has the one
-- loose variable, which is `!1` outside the branch
abbrev branching : Tree
branching =
    trees.case 0 first
    (trees.arm 0 zero_literal (trees.arm 1 (trees.op trees.plus (two (trees.bound 0) (trees.op trees.successor (one (trees.bound 2))))) trees.end))

pub height-branch : height branching ≡ 3
height-branch = refl

-- the case, its two leaves, and the four nodes of the second body: variables of a branch are no nodes
pub nodes-branch : nodes branching ≡ 7
nodes-branch = refl

pub range-branch : loose_range branching ≡ 2
range-branch = refl

-- `let x = !0 in !3`, where the second one is `!2` outside
pub range-let : loose_range (trees.bind (trees.bound 0) (trees.bound 3)) ≡ 3
range-let = refl

-- the variable of the `let` itself isn't loose
pub range-own : loose_range (trees.bind first (trees.bound 0)) ≡ 0
range-own = refl

pub nodes-let : nodes (trees.bind first (trees.bound 0)) ≡ 3
nodes-let = refl

-- a term of a `let` is as high in its place as its body
pub height-let : height (trees.bind (trees.op trees.successor (one first)) first) ≡ 2
height-let = refl

-- one more than the index, of the greatest
pub range-greatest : loose_range (trees.put (two (trees.bound 4) (trees.bound 1))) ≡ 5
range-greatest = refl

-- a count stops at 2^64 - 1
pub counted-end : counted 18446744073709551616 ≡ 18446744073709551615
counted-end = refl

pub counted-below : counted 18446744073709551614 ≡ 18446744073709551614
counted-below = refl

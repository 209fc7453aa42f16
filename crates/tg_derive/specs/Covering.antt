-- Covering a variable by case distinctions: what a type's terms are to a depth, and what holds of each of them.
use Rattle.std.specs.Prelude.{ℕ, true, ◌≡◌, ◌⊎◌, [], Some}
use Rattle.tg_model.specs.Tree as tree
use Rattle.tg_model.specs.Tree.{Tree, Trees, free, con}
use Rattle.tg_model.specs.Types.{Ty}
use Rattle.tg_model.specs.Formula.{Formula}
use Rattle.tg_model.specs.Theory.{Theory, numbered, IsClosed}
use Rattle.tg_model.specs.Made.{IsMade}
use Rattle.tg_model.specs.Accepted.{IsAccepted, IsAmong}
use Rattle.tg_split.specs.Shapes.{Shape, Shapes, hole, node, none, more, of_type}
use Rattle.tg_calculus.specs.Sequent.{Context, Hypotheses, Each}
use Rattle.tg_calculus.specs.Replacement.{Replaced, FormulaReplaced}
use Rattle.tg_calculus.specs.Chains.{has_chain}
use Rattle.tg_calculus.specs.Step.{IsContext, IsFormula, IsTerm}
use Rattle.tg_calculus.specs.Theorem.{Follows}

-- the term is the shape, with variables of the holes' types
abbrev mutual
  pub HasShape : Context → Shape → Tree → Type 0
  HasShape G (hole T) (free n) = numbered G n ≡ Some T
  HasShape G (node c ss) (con d ts) = (c ≡ d) × HaveShapes G ss ts
  HasShape G s t = ⊥

  pub HaveShapes : Context → Shapes → Trees → Type 0
  HaveShapes G none tree.none = Unit {0}
  HaveShapes G (more s ss) (tree.more t ts) = HasShape G s t × HaveShapes G ss ts
  HaveShapes G ss ts = ⊥

-- the term has one of the shapes of the type to the depth, or is deeper
abbrev pub IsCovered : Theory → ℕ → Ty → Context → Tree → Type 0
IsCovered th k T G t = ((s : Shape) × IsAmong s (of_type th.datatypes k T) × HasShape G s t) ⊎ (has_chain th t k T ≡ true)

-- each variable has its type in the second context too
abbrev pub Extends : Context → Context → Type 0
Extends G K = (m : ℕ) (T : Ty) → numbered G m ≡ Some T → numbered K m ≡ Some T

-- a formula with a hole for terms of the type, which are made of constructors and variables
pub record HasHole (th : Theory) (G : Context) (T : Ty) (Q : Tree → Formula) : Type 0 where
  pub into : (s r t u : Tree) → IsMade t → IsMade u → Replaced s r t u → FormulaReplaced s r (Q t) (Q u)
  pub fits : (K : Context) → Extends G K → (t : Tree) → IsTerm th K t T → IsFormula th K (Q t)

-- a term that covers the variable
pub record Covers (th : Theory) (k : ℕ) (T : Ty) (G K : Context) (t : Tree) : Type 0 where
  pub extends : Extends G K
  pub closed : IsContext th K
  pub typed : IsTerm th K t T
  pub made : IsMade t
  pub covered : IsCovered th k T K t

-- What follows at each term that covers a variable follows at the variable.
abbrev pub CoverIsDerivable : Type 0
CoverIsDerivable = (th : Theory) (H : Hypotheses) → IsAccepted th → Each (IsFormula th []) H → (k : ℕ) (T : Ty) (G : Context) (n : ℕ) (Q : Tree → Formula)
    → IsContext th G → IsClosed th T → numbered G n ≡ Some T → HasHole th G T Q
    → ((K : Context) (t : Tree) → Covers th k T G K t → Follows th K H (Q t)) → Follows th G H (Q (free n))

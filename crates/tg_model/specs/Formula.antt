-- Formulas over terms.
use Rattle.std.specs.Prelude.{ℕ, List}
use Rattle.tg_model.specs.Tree.{Tree, Trees}
use Rattle.tg_model.specs.Types.{Ty}

-- `thyp` marks a hypothesis and means what it marks; `tested ts` says that the inputs `ts` are listed in the table;
-- `deep k ts` says that some of the inputs `ts` has a constructor depth above `k`
pub data Formula : Type 0 where
  atom : (t : Tree) → Formula
  both : (f g : Formula) → Formula
  implies : (f g : Formula) → Formula
  all : (t : Ty) (f : Formula) → Formula
  some : (t : Ty) (f : Formula) → Formula
  thyp : (f : Formula) → Formula
  tested : (ts : Trees) → Formula
  deep : (k : ℕ) (ts : Trees) → Formula
  deriving Discrete as formula_discrete

-- A sequent: the types of its free variables, its hypotheses and its goal.
pub record Sequent : Type 0 where
  pub vars : List Ty
  pub hypotheses : List Formula
  pub goal : Formula

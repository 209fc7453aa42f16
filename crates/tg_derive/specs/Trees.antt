-- The classes of patterns by their split trees, without limits.
use Rattle.std.specs.Prelude.{◌≡◌, List, [], ◌∷◌, ◌++◌}
use Rattle.std.specs.List.{flat_map}
use Rattle.tg_model.specs.Tree.{Tree}
use Rattle.tg_model.specs.Theory.{Theory}
use Rattle.tg_norm.specs.Splits.{Splits, IsForm}
use Rattle.tg_clause.specs.Clauses.{clauses_of}
use Rattle.tg_hyps.specs.Hypotheses.{Class}
use Rattle.tg_split.specs.Patterns.{Pattern}
use Rattle.tg_derive.specs.Goals.{start}
use Rattle.tg_derive.specs.Classes.{classes_of}

-- those of the minimal clauses of all leaves of the specification at the pattern
pub record AreClassesAt (th : Theory) (p : Pattern) (cs : List Class) : Type 0 where
  pub form : Tree
  pub leaves : List Tree
  pub is_form : IsForm th (start th p).term form
  pub are_leaves : Splits (IsForm th) form leaves
  pub classes : cs ≡ classes_of p (flat_map clauses_of leaves)

abbrev pub AreClassesOf : Theory → List Pattern → List Class → Type 0
AreClassesOf th [] cs = cs ≡ []
AreClassesOf th (p ∷ ps) cs = (first rest : List Class) × AreClassesAt th p first × AreClassesOf th ps rest × (cs ≡ first ++ rest)

-- The names of the 26 rules, each with the arguments that aren't premises.
use Rattle.std.specs.Prelude.{ℕ, List}
use Rattle.tg_model.specs.Tree.{Tree, Trees}
use Rattle.tg_model.specs.Types.{Ty}
use Rattle.tg_model.specs.Formula.{Formula}
use Rattle.tg_calculus.specs.Sequent.{Context}

pub data Rule : Type 0 where
  hyp : (G : Context) (F : Formula) → Rule
  weak : (F : Formula) → Rule
  cut : Rule
  grow : (Ts : List Ty) → Rule
  and_i : Rule
  and_l : Rule
  and_r : Rule
  imp_i : (F : Formula) → Rule
  mp : Rule
  all_i : Rule
  all_e : (t : Tree) → Rule
  ex_i : (F : Formula) (t : Tree) → Rule
  ex_e : Rule
  thyp_i : Rule
  thyp_e : Rule
  truth : (G : Context) → Rule
  falsity : (F : Formula) → Rule
  split : (t : Tree) → Rule
  reflexive : (G : Context) (t : Tree) → Rule
  symmetric : Rule
  transitive : Rule
  replace : (F : Formula) → Rule
  -- the row of number `k`
  schema : (G : Context) (k : ℕ) (t : Tree) → Rule
  exhaust : (n : ℕ) → Rule
  deep : (G : Context) (k : ℕ) (ts : Trees) → Rule
  compute : (G : Context) (t : Tree) → Rule

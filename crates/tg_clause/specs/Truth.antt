-- The truth of clauses: at values of the variables of their atoms.
use Rattle.std.specs.Prelude.{Bool, true, List}
use Rattle.std.specs.List.{list_any, list_all}
use Rattle.tg_model.specs.Tree.{Tree}
use Rattle.tg_model.specs.Value.{Value, boolean, same_truth, same_value}
use Rattle.tg_model.specs.Denotation.{World, value_in}
use Rattle.tg_clause.specs.declared.literals.Literal.{Literal}
use Rattle.tg_clause.specs.Clauses.{Clause}

-- `env` has the values of the free variables, `loc` those of the loose bound ones
module _ (w : World) (env loc : List Value) where
  -- the term is True
  abbrev pub truth_at : Tree → Bool
  truth_at t = same_value (boolean true) (value_in w env loc t)

  abbrev pub holds : Literal → Bool
  holds l = same_truth l.positive (truth_at l.atom)

  -- one of its literals is true
  abbrev pub clause_holds : Clause → Bool
  clause_holds c = list_any holds c

  abbrev pub all_hold : List Clause → Bool
  all_hold cs = list_all clause_holds cs

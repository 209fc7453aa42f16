-- Terms made of constructors, variables and truth values alone: patterns, and the inputs of a program call in a class.
use Rattle.std.specs.Prelude.{ℕ, false, ◌≡◌, List, []}
use Rattle.tg_model.specs.Tree as tree
use Rattle.tg_model.specs.Tree.{Tree, Trees, free, truth, con}
use Rattle.tg_model.specs.Value.{Value}
use Rattle.tg_model.specs.Theory.{Theory}
use Rattle.tg_model.specs.Table.{Table}
use Rattle.tg_model.specs.Denotation.{den}
use Rattle.tg_model.specs.Walk.{walk, as_free}
use Rattle.tg_model.specs.Calls.{has_call}

abbrev mutual
  pub IsMade : Tree → Type 0
  IsMade (free n) = Unit {0}
  IsMade (truth b) = Unit {0}
  IsMade (con c ts) = AreMade ts
  IsMade t = ⊥

  pub AreMade : Trees → Type 0
  AreMade tree.none = Unit {0}
  AreMade (tree.more t ts) = IsMade t × AreMade ts

-- Such a term has one value within any binders and calls no program, and a walk that keeps free variables gives it back.
pub record Stays (t : Tree) : Type 0 where
  pub value : (th : Theory) (tb : Table) (env loc : List Value) → den th tb env loc t ≡ den th tb env [] t
  pub no_call : has_call t ≡ false
  pub walked : (on_bound : ℕ → ℕ → Tree) (d : ℕ) → walk on_bound as_free d t ≡ t

abbrev pub MadeTermsStay : Type 0
MadeTermsStay = (t : Tree) → IsMade t → Stays t

-- What a step promises.
use Rattle.std.specs.Prelude.{ℕ, ◌≡◌, List, Option, Some}
use Rattle.tg_model.specs.Tree.{Tree}
use Rattle.tg_model.specs.Types.{Ty}
use Rattle.tg_model.specs.Value.{Value}
use Rattle.tg_model.specs.Theory.{Theory}
use Rattle.tg_model.specs.Table.{Table}
use Rattle.tg_model.specs.Denotation.{den}
use Rattle.tg_model.specs.TermTyping.{IsTyped}
use Rattle.tg_model.specs.Calls.{EachPut}
use Rattle.tg_rows.specs.Laws.{Setting, HaveValues}
use Rattle.tg_rows.specs.Rows.{row}

-- `u` has the value of `t` on every table, at all values of a context's types, and each of its types
abbrev pub IsKept : Theory → Tree → Tree → Type 0
IsKept th t u = (n : Setting th) (a : Ty) → IsTyped th n.vars n.locs t a
    → (den th n.table n.env n.loc t ≡ den th n.table n.env n.loc u) × IsTyped th n.vars n.locs u a

-- where all program calls of `t` have the inputs `d`, so have those of `u`
abbrev pub KeepsInputs : Theory → Tree → Tree → Type 0
KeepsInputs th t u = (tb : Table) (env d : List Value) → EachPut (HaveValues th tb env d) t → EachPut (HaveValues th tb env d) u

-- just what row `s` makes of `t`
pub record IsStep (th : Theory) (s : ℕ) (t : Tree) (o : Option Tree) : Type 0 where
  pub is : o ≡ row th s t
  pub kept : (u : Tree) → o ≡ Some u → IsKept th t u
  pub inputs : (u : Tree) → o ≡ Some u → KeepsInputs th t u

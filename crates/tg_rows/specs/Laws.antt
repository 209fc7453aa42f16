-- What each row keeps: the value, every type, and the inputs of program calls.
use Rattle.std.specs.Prelude.{ℕ, ◌≡◌, List, [], length, Some, None}
use Rattle.tg_model.specs.Tree.{Tree, Trees, bind}
use Rattle.tg_model.specs.Types.{Ty, tys}
use Rattle.tg_model.specs.Value.{Value}
use Rattle.tg_model.specs.Theory.{Theory, AreClosed}
use Rattle.tg_model.specs.Typing.{AreTyped}
use Rattle.tg_model.specs.Table.{Table, IsTable}
use Rattle.tg_model.specs.Denotation.{values_in, world, den}
use Rattle.tg_model.specs.TermTyping.{IsTyped}
use Rattle.tg_model.specs.WellTyped.{IsWellTyped}
use Rattle.tg_model.specs.Made.{IsMade, AreMade}
use Rattle.tg_model.specs.Calls.{EachPut}
use Rattle.tg_model.specs.Accepted.{IsAccepted}
use Rattle.tg_rows.specs.Rows.{rows, row, first}

-- A context with values of its types, on a table.
pub record Setting (th : Theory) : Type 0 where
  pub table : Table
  pub is_table : IsTable th table
  pub vars : List Ty
  pub locs : List Ty
  pub env : List Value
  pub loc : List Value
  pub closed_vars : AreClosed th (tys vars)
  pub closed_locs : AreClosed th (tys locs)
  pub typed_env : AreTyped th env vars
  pub typed_loc : AreTyped th loc locs

-- in a well-typed theory what a row makes of a typed term has the term's value on every table, at all values of its context's
-- types, and each of its types
abbrev pub RowsKeep : Type 0
RowsKeep = (th : Theory) → IsWellTyped th → (n : Setting th) (s : ℕ) (t u : Tree) (a : Ty) → row th s t ≡ Some u → IsTyped th n.vars n.locs t a
    → (den th n.table n.env n.loc t ≡ den th n.table n.env n.loc u) × IsTyped th n.vars n.locs u a

-- there are 48
abbrev pub AreFortyEight : Type 0
AreFortyEight = (th : Theory) → length (rows th) ≡ 48

-- A row applies to every `let`, and none to a term that is made of constructors, variables and truth values.
abbrev pub SomeForLet : Type 0
SomeForLet = (th : Theory) (t body : Tree) → (s : ℕ) × (u : Tree) × (first th (bind t body) ≡ Some (s, u))

abbrev pub NoneForMade : Type 0
NoneForMade = (th : Theory) (t : Tree) → IsMade t → first th t ≡ None

-- the arguments of a program call have the values `d`, and are made of constructors, variables and truth values alone
pub record HaveValues (th : Theory) (tb : Table) (env d : List Value) (ts : Trees) : Type 0 where
  pub values : values_in (world th tb) env [] ts ≡ d
  pub made : AreMade ts

-- A row keeps that the program calls of a term have the inputs `d`.
abbrev pub RowsKeepInputs : Type 0
RowsKeepInputs = (th : Theory) → IsAccepted th → (tb : Table) (env d : List Value) (s : ℕ) (t u : Tree) → row th s t ≡ Some u
    → EachPut (HaveValues th tb env d) t → EachPut (HaveValues th tb env d) u

-- The limited value is the value, where there is one.
use Rattle.std.specs.Prelude.{ℕ, ◌≡◌, List, [], Some, false}
use Rattle.tg_model.specs.Tree.{Tree}
use Rattle.tg_model.specs.Types.{Ty, tys}
use Rattle.tg_model.specs.Value.{Value}
use Rattle.tg_model.specs.Theory.{Theory, AreClosed}
use Rattle.tg_model.specs.Typing.{AreTyped}
use Rattle.tg_model.specs.Table.{Table, IsTable, Lists}
use Rattle.tg_model.specs.Denotation.{values_in, world, den}
use Rattle.tg_model.specs.TermTyping.{IsTyped}
use Rattle.tg_model.specs.Calls.{has_call, EachPut}
use Rattle.tg_model.specs.Accepted.{IsAccepted}
use Rattle.tg_eval.specs.Limited.{limited}

-- In an accepted theory, on a table that lists the inputs `d` with an answer: of a typed term whose program calls all have the
-- inputs `d`, the limited value with this answer is the value on the table, whatever the bounds.
abbrev pub LimitedIsValue : Type 0
LimitedIsValue = (th : Theory) (tb : Table) → IsAccepted th → IsTable th tb → (d : List Value) (answer : Value) → Lists tb d answer
    → (vars : List Ty) (env : List Value) (t : Tree) (u : Ty) → AreClosed th (tys vars) → AreTyped th env vars → IsTyped th vars [] t u
    → EachPut (λ ts. (loc : List Value) → values_in (world th tb) env loc ts ≡ d) t
    → (levels left rest : ℕ) (v : Value) → limited th answer levels left env [] t ≡ Some (v, rest) → v ≡ den th tb env [] t

-- Of a term without a program call the limited value is the value on every table, whatever the bounds and the answer.
abbrev pub LimitedWithoutCalls : Type 0
LimitedWithoutCalls = (th : Theory) (tb : Table) → IsAccepted th → IsTable th tb → (answer : Value)
    → (vars : List Ty) (env : List Value) (t : Tree) (u : Ty) → AreClosed th (tys vars) → AreTyped th env vars → IsTyped th vars [] t u
    → has_call t ≡ false
    → (levels left rest : ℕ) (v : Value) → limited th answer levels left env [] t ≡ Some (v, rest) → v ≡ den th tb env [] t

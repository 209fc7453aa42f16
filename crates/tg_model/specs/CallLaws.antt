-- Laws of calls: a call has its body's value, and what a term with program calls depends on in a table.
use Rattle.std.specs.Prelude.{ℕ, suc, false, ◌≡◌, ◌<◌, ◌++◌, List, [], length, Some, slice_get}
use Rattle.tg_model.specs.Tree.{Tree}
use Rattle.tg_model.specs.Value.{Value}
use Rattle.tg_model.specs.Theory.{Theory, Function, plain, recursive, numbered, first_constructor}
use Rattle.tg_model.specs.Table.{Table, answer_of}
use Rattle.tg_model.specs.Denotation.{datatype_of_place, opened, place_of, others, values_in, world, den}
use Rattle.tg_model.specs.TermTyping.{EachCall}
use Rattle.tg_model.specs.WellTyped.{IsLower}
use Rattle.tg_model.specs.Calls.{has_call, EachPut}
use Rattle.tg_model.specs.Accepted.{IsAccepted}

-- A call of a definition has the value of its body at the arguments, read in the same world: that the body may call earlier
-- functions alone doesn't show.
abbrev pub DefinitionsAreBodies : Type 0
DefinitionsAreBodies = (th : Theory) (tb : Table) (n : ℕ) (x : Function) (t : Tree) (vs : List Value)
    → numbered th.functions (suc n) ≡ Some x → x.body ≡ plain t → EachCall (λ f ts. f < suc n) t
    → (world th tb).calls (suc n) vs ≡ den th tb vs [] t

-- A call of a primitive recursive function has the value of the body for the constructor that its argument is made by.
abbrev pub RecursionsAreBodies : Type 0
RecursionsAreBodies = (th : Theory) (tb : Table) (n : ℕ) (x : Function) (place : ℕ) (cases : List Tree) (vs : List Value)
    → numbered th.functions (suc n) ≡ Some x → x.body ≡ recursive place cases
    → (k : ℕ) (parts : List Value) (t : Tree)
    → opened (datatype_of_place x place) (first_constructor th.datatypes (datatype_of_place x place)) (place_of vs place) ≡ Some (k, parts)
    → slice_get cases k ≡ Some t → EachCall (IsLower (suc n) place (length (others vs place)) (length parts)) t
    → (world th tb).calls (suc n) vs ≡ den th tb (others vs place ++ parts) [] t

-- A term without a program call has one value, whatever the table.
abbrev pub NeedsNoTable : Type 0
NeedsNoTable = (th : Theory) → IsAccepted th → (tb tb' : Table) (env loc : List Value) (t : Tree) → has_call t ≡ false
    → den th tb env loc t ≡ den th tb' env loc t

-- A term whose program calls all have the inputs `d` has one value on every two tables that answer `d` alike.
abbrev pub NeedsOneAnswer : Type 0
NeedsOneAnswer = (th : Theory) → IsAccepted th → (tb tb' : Table) (env loc : List Value) (t : Tree) (d : List Value)
    → EachPut (λ ts. (l : List Value) → values_in (world th tb) env l ts ≡ d) t → answer_of th tb d ≡ answer_of th tb' d
    → den th tb env loc t ≡ den th tb' env loc t

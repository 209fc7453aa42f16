-- A function that stands in as the program, and what it answers to the tests.
use Rattle.std.specs.Prelude.{ℕ, ◌≡◌, List, map, length, Option, Some}
use Rattle.tg_eval.specs.Answering.{value_part}
use Rattle.tg_eval.specs.Limited.{limited_value}
use Rattle.tg_harness.specs.Tests.{Test, Record}
use Rattle.tg_model.specs.Accepted.{variables_from}
use Rattle.tg_model.specs.Theory.{Theory, Function, numbered, instance}
use Rattle.tg_model.specs.Tree.{Tree, call, trees}
use Rattle.tg_model.specs.Types.{Ty}
use Rattle.tg_model.specs.Value.{Value, wrong}

-- at some types for its type variables the function has the program's type
pub record HasProgramType (th : Theory) (f : Function) : Type 0 where
  pub types : List Ty
  pub each : length types ≡ f.parameters
  pub inputs : map (instance types) f.arguments ≡ th.program.inputs
  pub answer : instance types f.answer ≡ th.program.answer

-- the n-th function has the name
pub record IsNamed (th : Theory) (name : List ℕ) (n : ℕ) (f : Function) : Type 0 where
  pub at : numbered th.functions n ≡ Some f
  pub named : f.name ≡ name

-- the n-th function has the name and the program's type
pub record StandsIn (th : Theory) (name : List ℕ) (n : ℕ) : Type 0 where
  pub function : Function
  pub named : IsNamed th name n function
  pub fits : HasProgramType th function

-- `f ?1 .. ?k`, where the program has k inputs
abbrev pub call_of : Theory → ℕ → Tree
call_of th n = call n (trees (variables_from 1 (length th.program.inputs)))

-- the limited value of the call at the inputs, or none where it passes a bound
abbrev pub answer_at : Theory → ℕ → List Value → Option Value
answer_at th n inputs = value_part (limited_value th wrong inputs (call_of th n))

-- what is recorded of a test
abbrev pub recorded_of : Theory → ℕ → Test → Record
recorded_of th n t = record { test = t.number; answer = answer_at th n t.datum }

abbrev pub simulated : Theory → ℕ → List Test → List Record
simulated th n ts = map (recorded_of th n) ts

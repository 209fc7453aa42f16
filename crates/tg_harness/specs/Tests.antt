-- Tests and what is recorded of them, as the model has it.
use Rattle.std.specs.Prelude.{ℕ, List, map, Option, option_map}
use Rattle.tg_model.specs.Value.{Value}
use Rattle.tg_term.specs.Values.{value}
use Rattle.tg_term.specs.declared.classes.Test as code_test
use Rattle.tg_term.specs.declared.classes.Outcome as code_outcome

-- a test has the number of its class, and the inputs of the program
pub record Test : Type 0 where
  pub number : ℕ
  pub datum : List Value

abbrev pub test : code_test.Test → Test
test t = record { number = t.class; datum = map value t.datum }

-- what is recorded of a test: the program's answer, or none where it raised an error
pub record Record : Type 0 where
  pub test : ℕ
  pub answer : Option Value

abbrev pub record_of : code_outcome.Outcome → Record
record_of o = record { test = o.test; answer = option_map value o.answer }

-- What patterns, tests and outcomes hold, as the model has it.
use Rattle.std.specs.Prelude.{List, map, Option, option_map}
use Rattle.tg_model.specs.Tree.{Trees, trees}
use Rattle.tg_model.specs.Types as types
use Rattle.tg_model.specs.Value as model
use Rattle.tg_types.specs.Types.{ty}
use Rattle.tg_term.specs.Values.{value, values}
use Rattle.tg_term.specs.declared.classes.Pattern.{Pattern}
use Rattle.tg_term.specs.declared.classes.Test.{Test}
use Rattle.tg_term.specs.declared.classes.Outcome.{Outcome}

-- the terms of the inputs
abbrev pub inputs_of : Pattern → Trees
inputs_of p = trees p.terms

-- the types of the variables, that of the first one first
abbrev pub variables_of : Pattern → List types.Ty
variables_of p = map ty p.vars

-- the inputs of the test
abbrev pub datum_of : Test → model.Values
datum_of t = values t.datum

-- the recorded answer, and none where the program raised an error
abbrev pub answer_of : Outcome → Option model.Value
answer_of o = option_map value o.answer

-- The hypotheses that stand for what isn't tested, the test of a class, and the theorem's conclusion.
use Rattle.std.specs.Prelude.{ℕ, Bool, true, false, ◌||◌, List, [], ◌∷◌, map, Option, Some, None, if◌then◌else◌}
use Rattle.tg_model.specs.Tree.{Tree, Trees, truth, op, two, disjunction}
use Rattle.tg_model.specs.Types.{Ty, nat, bool, parameter, meta, applied}
use Rattle.tg_model.specs.Value.{Value}
use Rattle.tg_model.specs.Formula.{Formula, atom, both, implies, thyp, tested, deep}
use Rattle.tg_model.specs.Theory.{Theory}
use Rattle.tg_model.specs.Walk.{substituted_formula}
use Rattle.tg_model.specs.Closing.{universal_closure, existential_closure}
use Rattle.tg_term.specs.Classes.{inputs_of, variables_of}
use Rattle.tg_term.specs.declared.classes.Class as declared
use Rattle.tg_hyps.specs.Written.{term_of, variables_from}

-- A class of inputs: a pattern's terms, one for each input, the types of its variables, that of `?1` first, the terms that
-- are true of the class's inputs, and those of which the specification says that one is.
pub record Class : Type 0 where
  pub inputs : Trees
  pub variables : List Ty
  pub constraints : List Tree
  pub checks : List Tree

-- a class of the program
abbrev pub seen : declared.Class → Class
seen c = record { inputs = inputs_of c.pattern; variables = variables_of c.pattern; constraints = c.constraints; checks = c.checks }

-- the disjunction of the terms, grouped to the right, and False without terms
abbrev pub some_of : List Tree → Tree
some_of [] = truth false
some_of (t ∷ []) = t
some_of (t ∷ u ∷ us) = op disjunction (two t (some_of (u ∷ us)))

-- `[C1] & (.. ([Cn] & F))`
abbrev pub both_all : List Tree → Formula → Formula
both_all [] f = f
both_all (t ∷ ts) f = both (atom t) (both_all ts f)

-- `[C1] --> (.. ([Cn] --> F))`
abbrev pub if_all : List Tree → Formula → Formula
if_all [] f = f
if_all (t ∷ ts) f = implies (atom t) (if_all ts f)

-- what the specification says of an input of the class: one of the checks is true
abbrev pub checked : Class → Formula
checked c = atom (some_of c.checks)

-- The test at values of the class's variables: the inputs are tested and checked there. The values are put in, and nothing is
-- normalised.
abbrev pub test_of : Class → List Value → Formula
test_of c vs = substituted_formula (map term_of vs) (both (tested c.inputs) (checked c))

-- The open class: each tested input of the class is checked.
abbrev pub open_class_of : Class → Formula
open_class_of c = universal_closure c.variables (implies (tested c.inputs) (if_all c.constraints (checked c)))

-- Uniformity: if one tested input of the class is checked, then each is. It is the shape of Brucker and Wolff, restricted to
-- tested inputs.
abbrev pub uniformity_of : Class → Formula
uniformity_of c =
    thyp (implies (existential_closure c.variables (both (tested c.inputs) (both_all c.constraints (checked c)))) (open_class_of c))

-- a datatype's type
abbrev pub is_data : Ty → Bool
is_data nat = false
is_data bool = false
is_data (parameter n) = false
is_data (meta n) = false
is_data (applied d ts) = true

abbrev pub some_data : List Ty → Bool
some_data [] = false
some_data (t ∷ ts) = is_data t || some_data ts

-- The inputs, as the variables that the specification has for them.
abbrev pub inputs_as_variables : Theory → Trees
inputs_as_variables th = variables_from 1 th.program.inputs

-- Regularity: at tested inputs of which some is deeper than `k` the specification holds. Where no input has a datatype's
-- type none is deep, and there is no such hypothesis.
abbrev pub regularity_of : Theory → ℕ → Option Formula
regularity_of th k =
    if some_data th.program.inputs
    then Some (thyp (universal_closure th.program.inputs
    (implies (tested (inputs_as_variables th)) (implies (deep k (inputs_as_variables th)) (atom th.specification)))))
    else None

-- The conclusion: the specification holds at each tested input.
abbrev pub conclusion_of : Theory → Formula
conclusion_of th = universal_closure th.program.inputs (implies (tested (inputs_as_variables th)) (atom th.specification))

-- What the program answers of classes.
use Rattle.std.specs.Prelude.{List, [], ◌∷◌, ◌++◌, map, reverse, Some, None}
use Rattle.tg_model.specs.Tree.{Tree}
use Rattle.tg_term.specs.Values.{value}
use Rattle.tg_norm.specs.declared.errors.NormErr.{NormErr}
use Rattle.tg_norm.specs.declared.errors.NormErr.TheVariants as norm
use Rattle.tg_clause.specs.declared.errors.ClauseErr.{ClauseErr}
use Rattle.tg_clause.specs.declared.errors.ClauseErr.TheVariants as clause
use Rattle.tg_derive.specs.declared.errors.LimitErr.{LimitErr}
use Rattle.tg_derive.specs.declared.errors.LimitErr.TheVariants.{Patterns, Splits, Steps, Clauses, Memory}
use Rattle.tg_derive.specs.declared.goals.Goal as code
use Rattle.tg_derive.specs.declared.theorems.Choice as code_choice
use Rattle.tg_derive.specs.declared.theorems.Choice.TheVariants.{Tested, Assumed}
use Rattle.tg_derive.specs.declared.theorems.Label as code_label
use Rattle.tg_derive.specs.declared.theorems.Label.TheVariants.{Test, Uniformity, OpenClass, Regularity}
use Rattle.tg_derive.specs.declared.theorems.Hypothesis as code_hypothesis
use Rattle.tg_derive.specs.Theorem.{Choice, Label, test, uniformity, open_class, regularity, Hypothesis, labelled}
use Rattle.tg_derive.specs.Goals.{Goal}
use Rattle.tg_derive.specs.Work.{Limit, Worked, passed}
use Rattle.tg_derive.specs.Work as work

-- The work stops by this error, where it isn't want of memory.
abbrev pub Stops : {A : Type 0} → (Worked A → Type 0) → LimitErr → Type 0
Stops P Patterns = P (passed work.patterns)
Stops P Splits = P (passed work.splits)
Stops P Steps = P (passed work.steps)
Stops P Clauses = P (passed work.clauses)
Stops P Memory = Unit {0}

abbrev pub goal_of : code.Goal → Goal
goal_of g = record { conditions = g.conditions.items; term = g.term }

-- the goals of a stack, the last one first
abbrev pub goals : List code.Goal → List Goal
goals gs = reverse (map goal_of gs)

abbrev pub of_norm : NormErr → LimitErr
of_norm norm.Steps = Steps
of_norm norm.Memory = Memory

abbrev pub of_clause : ClauseErr → LimitErr
of_clause clause.Clauses = Clauses
of_clause clause.Memory = Memory

-- a goal with one condition more
abbrev pub stacked : List Tree → Tree → Tree → Goal
stacked qs q t = record { conditions = qs ++ q ∷ []; term = t }

abbrev pub choice_of : code_choice.Choice → Choice
choice_of (Tested vs) = Some (map value vs)
choice_of Assumed = None

abbrev pub label_of : code_label.Label → Label
label_of (Test n) = test n
label_of (Uniformity n) = uniformity n
label_of (OpenClass n) = open_class n
label_of Regularity = regularity

abbrev pub hypothesis : code_hypothesis.Hypothesis → Hypothesis
hypothesis h = labelled (label_of h.label) h.formula

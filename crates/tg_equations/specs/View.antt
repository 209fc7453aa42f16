-- Equations of the program as those of the definitions.
use Rattle.std.specs.Prelude.{List, map}
use Rattle.tg_accept.specs.Equations as model
use Rattle.tg_typing.specs.View.{head, resolved}
use Rattle.tg_equations.specs.declared.equations.Equation.{Equation}
use Rattle.tg_equations.specs.declared.equations.Pattern.{Pattern}
use Rattle.tg_equations.specs.declared.equations.Pattern.TheVariants.{Variable, Matched}

abbrev pub pattern : Pattern → model.Pattern
pattern (Variable x) = model.variable x
pattern (Matched h xs) = model.matched (head h) xs

abbrev pub patterns : List Pattern → List model.Pattern
patterns ps = map pattern ps

abbrev pub equation : Equation → model.Equation
equation e = record { head = e.head; patterns = patterns e.patterns; body = resolved e.body }

abbrev pub equations : List Equation → List model.Equation
equations es = map equation es

use Rattle.std.proofs.Common.{drop}
use Rattle.tg_accept.specs.Functions.{IsEquationShaped}
use Rattle.tg_declarations.specs.View.{function}
use Rattle.tg_equations.specs.View.{equations}
use Rattle.tg_equations.proofs.EachLaws.{Left}
use Rattle.tg_equations.proofs.shapes.are_equations_shaped.Given as goal

abbrev pub invariant-loop-e : goal.invariant-loop-e
invariant-loop-e l = Left (IsEquationShaped l.declared (function l.signature)) (equations l.es) (equations (drop l.e-index l.es))

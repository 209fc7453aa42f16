use Rattle.std.proofs.Common.{drop, map}
use Rattle.tg_accept.specs.Equations.{equation_meant}
use Rattle.tg_equations.specs.View.{equations}
use Rattle.tg_infer.specs.Scopes.{scope_of}
use Rattle.tg_infer.specs.View.{raw_equation}
use Rattle.tg_infer.proofs.EachLaws.{StandsEach}
use Rattle.tg_infer.proofs.equations.equations.Given as goal

abbrev pub invariant-loop-e : goal.invariant-loop-e
invariant-loop-e l = StandsEach (equation_meant (scope_of l.scope)) (map raw_equation l.es) (equations l.all) (map raw_equation (drop l.e-index l.es))

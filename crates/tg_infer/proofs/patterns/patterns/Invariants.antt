use Rattle.std.proofs.Common.{drop, map}
use Rattle.tg_accept.specs.Equations.{pattern_meant}
use Rattle.tg_equations.specs.View.{patterns}
use Rattle.tg_infer.specs.Scopes.{scope_of}
use Rattle.tg_infer.specs.View.{raw_pattern}
use Rattle.tg_infer.proofs.EachLaws.{StandsEach}
use Rattle.tg_infer.proofs.patterns.patterns.Given as goal

abbrev pub invariant-loop-p : goal.invariant-loop-p
invariant-loop-p l = StandsEach (pattern_meant (scope_of l.scope)) (map raw_pattern l.ps) (patterns l.all) (map raw_pattern (drop l.p-index l.ps))

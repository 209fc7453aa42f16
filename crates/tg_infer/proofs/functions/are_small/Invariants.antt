use Rattle.std.proofs.Common.{drop, map}
use Rattle.tg_infer.specs.View.{raw_equation}
use Rattle.tg_infer.proofs.FunctionLaws.{AreSmallSoFar}
use Rattle.tg_infer.proofs.functions.are_small.Given as goal

abbrev pub invariant-loop-e : goal.invariant-loop-e
invariant-loop-e l = AreSmallSoFar (map raw_equation l.es) (map raw_equation (drop l.e-index l.es))

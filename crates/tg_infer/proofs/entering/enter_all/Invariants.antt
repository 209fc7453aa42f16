use Rattle.std.proofs.Common.{drop, map}
use Rattle.tg_infer.specs.Scopes.{scope_of}
use Rattle.tg_infer.specs.View.{binder}
use Rattle.tg_infer.proofs.EnteringLaws.{AreEntering}
use Rattle.tg_infer.proofs.entering.enter_all.Given as goal

abbrev pub invariant-loop-x : goal.invariant-loop-x
invariant-loop-x l = AreEntering (scope_of l.scope) l.initial.outer l.outer (map binder l.xs) (map binder (drop l.x-index l.xs))

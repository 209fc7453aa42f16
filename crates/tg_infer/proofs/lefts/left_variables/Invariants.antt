use Rattle.std.proofs.Common.{drop}
use Rattle.tg_infer.proofs.LeftLaws.{IsLeft}
use Rattle.tg_infer.proofs.lefts.left_variables.Given as goal

abbrev pub invariant-loop-p : goal.invariant-loop-p
invariant-loop-p l = IsLeft l.ps l.variables (drop l.p-index l.ps) l.next l.inner

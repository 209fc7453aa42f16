use Rattle.std.proofs.Common.{drop}
use Rattle.tg_infer.proofs.LeftLaws.{IsAdding}
use Rattle.tg_infer.proofs.lefts.add_numbered.Given as goal

abbrev pub invariant-loop-x : goal.invariant-loop-x
invariant-loop-x l = IsAdding l.first l.xs l.initial.variables l.variables (drop l.x-index l.xs) l.next

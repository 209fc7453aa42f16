use Rattle.std.proofs.Common.{◌≡◌, take}
use Rattle.tg_solver.specs.Walk.{stages_from}
use Rattle.tg_solver.proofs.stages.stages.Given as goal

abbrev pub invariant-loop-truth : goal.invariant-loop-truth
invariant-loop-truth l = record {
  counted : l.number ≡ l.truth-index;
  made : l.out ≡ stages_from l.count 1 (take l.truth-index l.truths) l.constraints;
}

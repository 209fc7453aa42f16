use Rattle.std.proofs.Common.{◌≡◌, ◌+◌, ◌-◌, []}
use Rattle.tg_accept.specs.Declared.{theory}
use Rattle.tg_solver.specs.Candidates.{holds}
use Rattle.tg_solver.specs.Walk.{first_completion}
use Rattle.tg_solver.proofs.walking.first_walked.Given as goal

abbrev pub invariant-loop-below : goal.invariant-loop-below
invariant-loop-below l = record {
  none : l.vars.items ≡ [];
  left : first_completion (holds (theory [] l.declared)) (l.below + 1) (l.most - l.below) l.stages ≡ first_completion (holds (theory [] l.declared)) 1 l.most l.stages;
}

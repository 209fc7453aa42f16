use Rattle.std.proofs.Common.{◌≡◌, ◌+◌, ◌-◌, ◌*◌, [], length}
use Rattle.tg_accept.specs.Declared.{theory}
use Rattle.tg_solver.specs.Candidates.{holds}
use Rattle.tg_solver.specs.Walk.{completion_from}
use Rattle.tg_solver.proofs.walking.+walk.Given as goal

abbrev pub decreases-completed : goal.decreases-completed
decreases-completed l = 4 * length l.stages.now

abbrev pub decreases-extended : goal.decreases-extended
decreases-extended l = 4 * length l.rest.now + 3

abbrev pub decreases-tried : goal.decreases-tried
decreases-tried l = 4 * length l.rest.now + 2

abbrev pub decreases-decided : goal.decreases-decided
decreases-decided l = 4 * length l.rest.now + 1

-- the values are as before, and the numbers that are left decide
abbrev pub invariant-extended-loop-n : goal.invariant-extended-loop-n
invariant-extended-loop-n l = record {
  kept : l.vars.items ≡ l.initial.vars.items;
  left : completion_from (holds (theory [] l.walk.declared.now)) l.walk.greatest l.most l.initial.vars.items l.stage l.rest l.n (l.last + 1 - l.n)
      ≡ completion_from (holds (theory [] l.walk.declared.now)) l.walk.greatest l.most l.initial.vars.items l.stage l.rest l.first (l.last + 1 - l.first);
}

use Rattle.std.proofs.Common.{◌≡◌, [], drop}
use Rattle.tg_accept.specs.Declared.{theory}
use Rattle.tg_solver.specs.Candidates.{satisfies}
use Rattle.tg_solver.proofs.constraints.all_hold.Given as goal

-- what is left decides
abbrev pub invariant-loop-t : goal.invariant-loop-t
invariant-loop-t l = satisfies (theory [] l.declared) (drop l.t-index l.constraints) l.vars ≡ satisfies (theory [] l.declared) l.constraints l.vars

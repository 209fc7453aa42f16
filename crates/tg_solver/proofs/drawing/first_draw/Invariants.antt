use Rattle.std.proofs.Common.{◌≡◌, ◌-◌, [], find}
use Rattle.tg_accept.specs.Declared.{theory}
use Rattle.tg_solver.specs.Candidates.{satisfies}
use Rattle.tg_solver.specs.Draws.{draws_from, generator}
use Rattle.tg_solver.proofs.drawing.first_draw.Given as goal

abbrev pub invariant-loop : goal.invariant-loop
invariant-loop l = find (satisfies (theory [] l.declared) l.constraints) (draws_from (l.settings.tries - l.counter) l.settings.width l.truths l.rng)
    ≡ find (satisfies (theory [] l.declared) l.constraints) (draws_from l.settings.tries l.settings.width l.truths (generator l.settings.seed l.index))

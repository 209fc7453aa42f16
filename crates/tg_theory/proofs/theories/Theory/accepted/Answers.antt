use Rattle.std.proofs.Common.{subst}
use Rattle.tg_model.specs.Accepted.{IsAccepted}
use Rattle.tg_theory.proofs.WholeLaws.{whole_accepted}
use Rattle.tg_theory.proofs.theories.Theory.accepted.Goals as goal

pub returns-clause-accepted : goal.returns-clause-accepted
returns-clause-accepted c = subst IsAccepted c.self.view_is (whole_accepted c.self.inside.name c.self.inside.declared c.self.invariant)

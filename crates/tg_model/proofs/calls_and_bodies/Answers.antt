use Rattle.tg_model.proofs.CallBodies.{definitions_are_bodies, recursions_are_bodies}
use Rattle.tg_model.proofs.calls_and_bodies.Goals as goal

pub returns-clause-definitions : goal.returns-clause-definitions
returns-clause-definitions c = definitions_are_bodies

pub returns-clause-recursions : goal.returns-clause-recursions
returns-clause-recursions c = recursions_are_bodies

use Rattle.tg_model.proofs.ClosedTruth.{closure_is_universal, closure_is_existential}
use Rattle.tg_model.proofs.closures.Goals as goal

pub returns-clause-universal : goal.returns-clause-universal
returns-clause-universal c = closure_is_universal

pub returns-clause-existential : goal.returns-clause-existential
returns-clause-existential c = closure_is_existential

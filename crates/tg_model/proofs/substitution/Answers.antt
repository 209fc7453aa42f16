use Rattle.tg_model.proofs.Keeping.{lifting_keeps, substitution_keeps, instantiation_keeps, abstraction_keeps}
use Rattle.tg_model.proofs.substitution.Goals as goal

pub returns-clause-lifting : goal.returns-clause-lifting
returns-clause-lifting c = lifting_keeps

pub returns-clause-substitution : goal.returns-clause-substitution
returns-clause-substitution c = substitution_keeps

pub returns-clause-instantiation : goal.returns-clause-instantiation
returns-clause-instantiation c = instantiation_keeps

pub returns-clause-abstraction : goal.returns-clause-abstraction
returns-clause-abstraction c = abstraction_keeps

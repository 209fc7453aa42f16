use Rattle.tg_model.proofs.Keeping.{lifting_keeps_types, substitution_keeps_types, instantiation_keeps_types, abstraction_keeps_types}
use Rattle.tg_model.proofs.substitution_and_types.Goals as goal

pub returns-clause-lifting : goal.returns-clause-lifting
returns-clause-lifting c = lifting_keeps_types

pub returns-clause-substitution : goal.returns-clause-substitution
returns-clause-substitution c = substitution_keeps_types

pub returns-clause-instantiation : goal.returns-clause-instantiation
returns-clause-instantiation c = instantiation_keeps_types

pub returns-clause-abstraction : goal.returns-clause-abstraction
returns-clause-abstraction c = abstraction_keeps_types

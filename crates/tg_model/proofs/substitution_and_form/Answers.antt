use Rattle.tg_model.proofs.Keeping.{substitution_keeps_form, instantiation_keeps_form, abstraction_keeps_form}
use Rattle.tg_model.proofs.substitution_and_form.Goals as goal

pub returns-clause-substitution : goal.returns-clause-substitution
returns-clause-substitution c = substitution_keeps_form

pub returns-clause-instantiation : goal.returns-clause-instantiation
returns-clause-instantiation c = instantiation_keeps_form

pub returns-clause-abstraction : goal.returns-clause-abstraction
returns-clause-abstraction c = abstraction_keeps_form

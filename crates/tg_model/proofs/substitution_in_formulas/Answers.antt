use Rattle.tg_model.proofs.Keeping.{substitution_keeps_truth, instantiation_keeps_truth, abstraction_keeps_truth}
use Rattle.tg_model.proofs.substitution_in_formulas.Goals as goal

pub returns-clause-substitution : goal.returns-clause-substitution
returns-clause-substitution c = substitution_keeps_truth

pub returns-clause-instantiation : goal.returns-clause-instantiation
returns-clause-instantiation c = instantiation_keeps_truth

pub returns-clause-abstraction : goal.returns-clause-abstraction
returns-clause-abstraction c = abstraction_keeps_truth

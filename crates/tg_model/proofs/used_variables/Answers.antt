use Rattle.tg_model.proofs.Keeping.{depends_on_used, truth_depends_on_used}
use Rattle.tg_model.proofs.used_variables.Goals as goal

pub returns-clause-values : goal.returns-clause-values
returns-clause-values c = depends_on_used

pub returns-clause-truth : goal.returns-clause-truth
returns-clause-truth c = truth_depends_on_used

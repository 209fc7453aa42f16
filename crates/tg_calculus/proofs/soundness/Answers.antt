use Rattle.tg_calculus.proofs.TrueOnTables.{steps_keep_truth, derivable_is_true, false_is_underivable, variable_is_kept}
use Rattle.tg_calculus.proofs.soundness.Goals as goal

pub returns-clause-steps : goal.returns-clause-steps
returns-clause-steps c = steps_keep_truth

pub returns-clause-derivable : goal.returns-clause-derivable
returns-clause-derivable c = derivable_is_true

pub returns-clause-consistency : goal.returns-clause-consistency
returns-clause-consistency c = false_is_underivable

pub returns-clause-variable : goal.returns-clause-variable
returns-clause-variable c = variable_is_kept

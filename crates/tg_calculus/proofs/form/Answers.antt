use Rattle.tg_calculus.proofs.Formed.{steps_keep_form, derivable_is_formed}
use Rattle.tg_calculus.proofs.form.Goals as goal

pub returns-clause-steps : goal.returns-clause-steps
returns-clause-steps c = steps_keep_form

pub returns-clause-derivable : goal.returns-clause-derivable
returns-clause-derivable c = derivable_is_formed

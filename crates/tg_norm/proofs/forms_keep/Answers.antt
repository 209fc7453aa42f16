use Rattle.tg_norm.proofs.OneWalk.{one_walk}
use Rattle.tg_norm.proofs.Keeping.{form_kept}
use Rattle.tg_norm.proofs.KeepingInputs.{form_good}
use Rattle.tg_norm.proofs.forms_keep.Goals as goal

pub returns-clause-one : goal.returns-clause-one
returns-clause-one c = one_walk

pub returns-clause-values : goal.returns-clause-values
returns-clause-values c = λ th wt n t w a is typed. form_kept th wt n t w is a typed

pub returns-clause-inputs : goal.returns-clause-inputs
returns-clause-inputs c = λ th accepted tb env d t w is good. form_good th accepted tb env d t w is good

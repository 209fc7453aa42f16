use Rattle.tg_eval.proofs.Laws.{limited_is_value, limited_without_calls}
use Rattle.tg_eval.proofs.limited_is_value.Goals as goal

pub returns-clause-listed : goal.returns-clause-listed
returns-clause-listed c = limited_is_value

pub returns-clause-no_calls : goal.returns-clause-no_calls
returns-clause-no_calls c = limited_without_calls

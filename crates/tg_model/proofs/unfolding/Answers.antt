use Rattle.tg_model.proofs.Recursion.{unfolds_recursion, unfolds_calls}
use Rattle.tg_model.proofs.unfolding.Goals as goal

pub returns-clause-recursion : goal.returns-clause-recursion
returns-clause-recursion c = unfolds_recursion

pub returns-clause-calls : goal.returns-clause-calls
returns-clause-calls c = unfolds_calls

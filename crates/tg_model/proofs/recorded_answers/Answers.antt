use Rattle.tg_model.proofs.Recorded.{is_listed_with_answer, answers_are_recorded, inputs_are_typed}
use Rattle.tg_model.proofs.recorded_answers.Goals as goal

pub returns-clause-listed : goal.returns-clause-listed
returns-clause-listed c = is_listed_with_answer

pub returns-clause-answered : goal.returns-clause-answered
returns-clause-answered c = answers_are_recorded

pub returns-clause-typed : goal.returns-clause-typed
returns-clause-typed c = inputs_are_typed

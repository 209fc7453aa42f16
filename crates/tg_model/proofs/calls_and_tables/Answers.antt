use Rattle.tg_model.proofs.CallTables.{needs_no_table, needs_one_answer}
use Rattle.tg_model.proofs.calls_and_tables.Goals as goal

pub returns-clause-no_table : goal.returns-clause-no_table
returns-clause-no_table c = needs_no_table

pub returns-clause-one_answer : goal.returns-clause-one_answer
returns-clause-one_answer c = needs_one_answer

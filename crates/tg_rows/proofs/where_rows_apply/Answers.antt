use Rattle.tg_rows.proofs.AllRows.{are_forty_eight, some_for_let, none_for_made}
use Rattle.tg_rows.proofs.where_rows_apply.Goals as goal

pub returns-clause-count : goal.returns-clause-count
returns-clause-count c = are_forty_eight

pub returns-clause-lets : goal.returns-clause-lets
returns-clause-lets c = some_for_let

pub returns-clause-made : goal.returns-clause-made
returns-clause-made c = none_for_made

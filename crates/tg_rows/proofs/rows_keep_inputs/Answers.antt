use Rattle.tg_rows.proofs.RowInputs.{rows_keep_inputs}
use Rattle.tg_rows.proofs.rows_keep_inputs.Goals as goal

pub returns : goal.returns
returns c = rows_keep_inputs

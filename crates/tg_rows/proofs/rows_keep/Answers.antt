use Rattle.tg_rows.proofs.AllRows.{rows_keep}
use Rattle.tg_rows.proofs.rows_keep.Goals as goal

pub returns : goal.returns
returns c = rows_keep

use Rattle.tg_tables.proofs.Places.{Rises_from_test}
use Rattle.tg_tables.proofs.table.Table.of.Goals as goal

pub invariant_of-result : goal.invariant_of-result
invariant_of-result g c = (c.requires.all, Rises_from_test _ c.requires.rising)

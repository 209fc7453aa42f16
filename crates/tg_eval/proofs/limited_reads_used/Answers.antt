use Rattle.tg_eval.proofs.Reading.{limited_reads_used, limited_of_substituted}
use Rattle.tg_eval.proofs.limited_reads_used.Goals as goal

pub returns-clause-used : goal.returns-clause-used
returns-clause-used c = limited_reads_used

pub returns-clause-substituted : goal.returns-clause-substituted
returns-clause-substituted c = limited_of_substituted

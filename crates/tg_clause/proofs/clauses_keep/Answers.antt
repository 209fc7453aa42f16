use Rattle.tg_clause.proofs.TermTruth.{clauses_are_true}
use Rattle.tg_clause.proofs.MinimalTruth.{minimised_are_among, minimising_keeps}
use Rattle.tg_clause.proofs.clauses_keep.Goals as goal

pub returns-clause-truth : goal.returns-clause-truth
returns-clause-truth c = clauses_are_true

pub returns-clause-some : goal.returns-clause-some
returns-clause-some c = minimised_are_among

pub returns-clause-minimal : goal.returns-clause-minimal
returns-clause-minimal c = minimising_keeps

use Rattle.tg_clause.proofs.ClassTruth.{classes_say_clauses, classes_are_typed, constraints_have_no_call}
use Rattle.tg_clause.proofs.classes_keep.Goals as goal

pub returns-clause-truth : goal.returns-clause-truth
returns-clause-truth c = classes_say_clauses

pub returns-clause-types : goal.returns-clause-types
returns-clause-types c = classes_are_typed

pub returns-clause-no_call : goal.returns-clause-no_call
returns-clause-no_call c = constraints_have_no_call

use Rattle.tg_derive.proofs.OneAnswer.{one_answer}
use Rattle.tg_derive.proofs.TreeLaws.{classes_are_of_trees}
use Rattle.tg_derive.proofs.ClassCounts.{few_classes}
use Rattle.tg_derive.proofs.ClassTypes.{classes_typed, no_call_in_constraints}
use Rattle.tg_derive.proofs.derivation.Goals as goal

pub returns-clause-one : goal.returns-clause-one
returns-clause-one c = one_answer

pub returns-clause-trees : goal.returns-clause-trees
returns-clause-trees c = classes_are_of_trees

pub returns-clause-few : goal.returns-clause-few
returns-clause-few c = few_classes

pub returns-clause-typed : goal.returns-clause-typed
returns-clause-typed c = classes_typed

pub returns-clause-no_call : goal.returns-clause-no_call
returns-clause-no_call c = no_call_in_constraints

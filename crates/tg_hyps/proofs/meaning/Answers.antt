use Rattle.tg_hyps.proofs.ClassTruth.{open_class_is_of_members, uniformity_is_of_members, test_is_of_values, regularity_is_of_deep, none_is_deep, conclusion_is_specification}
use Rattle.tg_hyps.proofs.meaning.Goals as goal

pub returns-clause-open_class : goal.returns-clause-open_class
returns-clause-open_class c = open_class_is_of_members

pub returns-clause-uniformity : goal.returns-clause-uniformity
returns-clause-uniformity c = uniformity_is_of_members

pub returns-clause-test : goal.returns-clause-test
returns-clause-test c = test_is_of_values

pub returns-clause-regularity : goal.returns-clause-regularity
returns-clause-regularity c = regularity_is_of_deep

pub returns-clause-none_deep : goal.returns-clause-none_deep
returns-clause-none_deep c = none_is_deep

pub returns-clause-conclusion : goal.returns-clause-conclusion
returns-clause-conclusion c = conclusion_is_specification

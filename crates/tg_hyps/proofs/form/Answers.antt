use Rattle.tg_hyps.proofs.ClosedForm.{classes_are_well_formed, conclusion_is_well_formed, regularity_is_well_formed}
use Rattle.tg_hyps.proofs.TypedValues.{tests_are_well_formed}
use Rattle.tg_hyps.proofs.form.Goals as goal

pub returns-clause-classes : goal.returns-clause-classes
returns-clause-classes c = classes_are_well_formed

pub returns-clause-conclusion : goal.returns-clause-conclusion
returns-clause-conclusion c = conclusion_is_well_formed

pub returns-clause-regularity : goal.returns-clause-regularity
returns-clause-regularity c = regularity_is_well_formed

pub returns-clause-tests : goal.returns-clause-tests
returns-clause-tests c = tests_are_well_formed

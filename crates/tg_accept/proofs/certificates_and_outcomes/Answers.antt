use Rattle.tg_accept.proofs.StandsFor.{term_is_typed, one_term, formula_is_well_formed, one_formula, one_value}
use Rattle.tg_accept.proofs.certificates_and_outcomes.Goals as goal

pub returns-clause-typed : goal.returns-clause-typed
returns-clause-typed c = term_is_typed

pub returns-clause-one_term : goal.returns-clause-one_term
returns-clause-one_term c = one_term

pub returns-clause-well_formed : goal.returns-clause-well_formed
returns-clause-well_formed c = formula_is_well_formed

pub returns-clause-one_formula : goal.returns-clause-one_formula
returns-clause-one_formula c = one_formula

pub returns-clause-one_value : goal.returns-clause-one_value
returns-clause-one_value c = one_value

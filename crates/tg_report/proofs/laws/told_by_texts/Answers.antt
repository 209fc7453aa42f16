use Rattle.tg_report.proofs.SameFormulas.{types_told, terms_told, formulas_told}
use Rattle.tg_report.proofs.SameValues.{values_told}
use Rattle.tg_report.proofs.laws.told_by_texts.Goals as goal

pub returns-clause-types : goal.returns-clause-types
returns-clause-types c = types_told

pub returns-clause-terms : goal.returns-clause-terms
returns-clause-terms c = terms_told

pub returns-clause-formulas : goal.returns-clause-formulas
returns-clause-formulas c = formulas_told

pub returns-clause-values : goal.returns-clause-values
returns-clause-values c = values_told

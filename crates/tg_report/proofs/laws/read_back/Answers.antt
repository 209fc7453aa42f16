use Rattle.tg_report.proofs.FormulaReading.{formulas_back}
use Rattle.tg_report.proofs.TermReading.{terms_back}
use Rattle.tg_report.proofs.TypeReading.{types_back}
use Rattle.tg_report.proofs.ValueReading.{values_back}
use Rattle.tg_report.proofs.laws.read_back.Goals as goal

pub returns-clause-types : goal.returns-clause-types
returns-clause-types c = types_back

pub returns-clause-values : goal.returns-clause-values
returns-clause-values c = values_back

pub returns-clause-terms : goal.returns-clause-terms
returns-clause-terms c = terms_back

pub returns-clause-formulas : goal.returns-clause-formulas
returns-clause-formulas c = formulas_back

use Rattle.tg_model.proofs.SameValue.{decides_equality}
use Rattle.tg_model.proofs.Equalities.{decides_trees, decides_types, decides_formulas}
use Rattle.tg_model.proofs.equality.Goals as goal

pub returns-clause-values : goal.returns-clause-values
returns-clause-values c = decides_equality

pub returns-clause-terms : goal.returns-clause-terms
returns-clause-terms c = decides_trees

pub returns-clause-types : goal.returns-clause-types
returns-clause-types c = decides_types

pub returns-clause-formulas : goal.returns-clause-formulas
returns-clause-formulas c = decides_formulas

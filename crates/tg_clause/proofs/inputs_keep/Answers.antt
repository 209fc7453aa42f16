use Rattle.tg_clause.proofs.InputLaws.{clauses_have_inputs, implications_have_inputs, checks_have_inputs}
use Rattle.tg_clause.proofs.inputs_keep.Goals as goal

pub returns-clause-clauses : goal.returns-clause-clauses
returns-clause-clauses c = clauses_have_inputs

pub returns-clause-implications : goal.returns-clause-implications
returns-clause-implications c = implications_have_inputs

pub returns-clause-checks : goal.returns-clause-checks
returns-clause-checks c = checks_have_inputs

use Rattle.tg_clause.proofs.AtomLaws.{atoms_are_typed, atoms_have_no_call, atoms_keep_inputs}
use Rattle.tg_clause.proofs.atoms_keep.Goals as goal

pub returns-clause-types : goal.returns-clause-types
returns-clause-types c = atoms_are_typed

pub returns-clause-no_call : goal.returns-clause-no_call
returns-clause-no_call c = atoms_have_no_call

pub returns-clause-inputs : goal.returns-clause-inputs
returns-clause-inputs c = atoms_keep_inputs

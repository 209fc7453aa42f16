use Rattle.std.proofs.Common.{rules}
use Rattle.tg_reading.proofs.Repetitions.{type_atoms}
use Rattle.tg_reading.proofs.types.type_atoms.Goals as goal

pub returns-in_err-type_atom-clause-exact : goal.returns-in_err-type_atom-clause-exact
returns-in_err-type_atom-clause-exact c = search (rules, type_atoms)

use Rattle.tg_lex.proofs.Runs.{texts, rise}
use Rattle.tg_lex.proofs.laws.fronts.Goals as goal

pub returns-clause-texts : goal.returns-clause-texts
returns-clause-texts c = texts

pub returns-clause-rise : goal.returns-clause-rise
returns-clause-rise c = rise

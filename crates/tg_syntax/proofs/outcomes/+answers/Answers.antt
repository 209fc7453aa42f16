use Rattle.std.proofs.Common.{rules}
use Rattle.tg_syntax.proofs.OutcomeRules.{answer_atoms_by}
use Rattle.tg_syntax.proofs.outcomes.+answers.Goals as goal

pub answer_atoms-returns-in_err-answer_atom-clause-exact : goal.answer_atoms-returns-in_err-answer_atom-clause-exact
answer_atoms-returns-in_err-answer_atom-clause-exact t c = search (rules, answer_atoms_by)

use Rattle.tg_derive.proofs.TheoremLaws.{theorem_is_true, assumptions_are_necessary}
use Rattle.tg_derive.proofs.truth.Goals as goal

pub returns-clause-theorem : goal.returns-clause-theorem
returns-clause-theorem c = theorem_is_true

pub returns-clause-necessary : goal.returns-clause-necessary
returns-clause-necessary c = assumptions_are_necessary

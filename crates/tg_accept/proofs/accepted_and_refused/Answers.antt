use Rattle.tg_accept.proofs.OneAnswer.{checks_are_separate, one_refusal, one_theory, not_both}
use Rattle.tg_accept.proofs.accepted_and_refused.Goals as goal

pub returns-clause-separate : goal.returns-clause-separate
returns-clause-separate c = checks_are_separate

pub returns-clause-one_refusal : goal.returns-clause-one_refusal
returns-clause-one_refusal c = one_refusal

pub returns-clause-one_theory : goal.returns-clause-one_theory
returns-clause-one_theory c = one_theory

pub returns-clause-never_both : goal.returns-clause-never_both
returns-clause-never_both c = not_both

use Rattle.tg_accept.proofs.AcceptedTheories.{kept_after, theory_is_accepted}
use Rattle.tg_accept.proofs.accepted_texts.Goals as goal

pub returns-clause-kept : goal.returns-clause-kept
returns-clause-kept c = kept_after

pub returns-clause-accepted : goal.returns-clause-accepted
returns-clause-accepted c = theory_is_accepted

use Rattle.tg_calculus.proofs.FromDraft.{step_is_draft, has_one_conclusion}
use Rattle.tg_calculus.proofs.drafts.Goals as goal

pub returns-clause-exact : goal.returns-clause-exact
returns-clause-exact c = step_is_draft

pub returns-clause-one : goal.returns-clause-one
returns-clause-one c = has_one_conclusion

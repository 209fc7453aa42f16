use Rattle.tg_calculus.proofs.SetLaws.{only_sets_count}
use Rattle.tg_calculus.proofs.DerivedRules.{following_is_theorem}
use Rattle.tg_calculus.proofs.sets.Goals as goal

pub returns-clause-exact : goal.returns-clause-exact
returns-clause-exact c = only_sets_count

pub returns-clause-more : goal.returns-clause-more
returns-clause-more c = following_is_theorem

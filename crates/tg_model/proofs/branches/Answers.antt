use Rattle.tg_model.proofs.Constructors.{cases_are_declared}
use Rattle.tg_model.proofs.branches.Goals as goal

pub returns : goal.returns
returns c = cases_are_declared

use Rattle.tg_accept.proofs.Widening.{typings_widen}
use Rattle.tg_accept.proofs.later_declarations.Goals as goal

pub returns : goal.returns
returns c = typings_widen

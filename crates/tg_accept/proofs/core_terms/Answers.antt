use Rattle.tg_accept.proofs.CoreTypes.{core_is_typed}
use Rattle.tg_accept.proofs.core_terms.Goals as goal

pub returns : goal.returns
returns c = core_is_typed

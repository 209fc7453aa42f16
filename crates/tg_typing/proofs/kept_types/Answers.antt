use Rattle.tg_typing.proofs.ClosedTypes.{kept_types_are_closed}
use Rattle.tg_typing.proofs.kept_types.Goals as goal

pub returns : goal.returns
returns c = kept_types_are_closed

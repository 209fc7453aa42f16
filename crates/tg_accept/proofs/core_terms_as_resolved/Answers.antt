use Rattle.tg_accept.proofs.Again.{resolved_again_typed, typed_again}
use Rattle.tg_accept.proofs.core_terms_as_resolved.Goals as goal

pub returns-clause-resolved : goal.returns-clause-resolved
returns-clause-resolved c = resolved_again_typed

pub returns-clause-typed : goal.returns-clause-typed
returns-clause-typed c = typed_again

use Rattle.tg_model.proofs.Narrowing.{truth_has_one_type}
use Rattle.tg_model.proofs.truth_values.Goals as goal

pub returns : goal.returns
returns c = truth_has_one_type

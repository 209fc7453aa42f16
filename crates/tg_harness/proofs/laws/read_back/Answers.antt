use Rattle.tg_harness.proofs.OutcomeReading.{outcomes_back}
use Rattle.tg_harness.proofs.laws.read_back.Goals as goal

pub returns : goal.returns
returns c = outcomes_back

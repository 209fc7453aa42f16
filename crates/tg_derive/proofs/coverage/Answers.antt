use Rattle.tg_derive.proofs.BothWays.{classes_cover}
use Rattle.tg_derive.proofs.ClassInputs.{calls_are_at_inputs}
use Rattle.tg_derive.proofs.coverage.Goals as goal

pub returns-clause-both_ways : goal.returns-clause-both_ways
returns-clause-both_ways c = classes_cover

pub returns-clause-inputs : goal.returns-clause-inputs
returns-clause-inputs c = calls_are_at_inputs

use Rattle.tg_model.proofs.InstanceTypings.{instance_keeps_types}
use Rattle.tg_model.proofs.CallSoundness.{soundness_at_instances}
use Rattle.tg_model.proofs.instances_of_types.Goals as goal

pub returns-clause-types : goal.returns-clause-types
returns-clause-types c = instance_keeps_types

pub returns-clause-values : goal.returns-clause-values
returns-clause-values c = soundness_at_instances

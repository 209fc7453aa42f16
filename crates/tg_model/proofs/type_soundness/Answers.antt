use Rattle.tg_model.proofs.CallSoundness.{soundness}
use Rattle.tg_model.proofs.type_soundness.Goals as goal

pub returns : goal.returns
returns c = soundness

use Rattle.tg_eval.proofs.Numbers.{limited_is_small}
use Rattle.tg_eval.proofs.limited_is_small.Goals as goal

pub returns : goal.returns
returns c = limited_is_small

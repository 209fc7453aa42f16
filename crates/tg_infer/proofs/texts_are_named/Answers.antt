use Rattle.tg_infer.proofs.TextNames.{texts_are_named}
use Rattle.tg_infer.proofs.texts_are_named.Goals as goal

pub returns : goal.returns
returns c = texts_are_named

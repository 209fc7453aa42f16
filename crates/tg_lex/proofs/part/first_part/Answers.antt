use Rattle.std.proofs.Common.{sym, subst}
use Rattle.tg_lex.specs.Grammar.{IsFirst}
use Rattle.tg_lex.proofs.Sound.{sound_if_some}
use Rattle.tg_lex.proofs.part.first_part.Goals as goal

pub returns : goal.returns
returns c = subst (λ r. IsFirst c.args.bytes.now r) (sym c.find_part.ensures) (sound_if_some c.args.bytes.now c.requires)

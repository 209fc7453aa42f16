use Rattle.std.proofs.Common.{Some, ap, ◌∙◌}
use Rattle.tg_reading.proofs.Left.{kind_at}
use Rattle.tg_reading.proofs.reader.kind_at.Goals as goal

pub returns-then-at-tokens : goal.returns-then-at-tokens
returns-then-at-tokens c = ap Some c.kind_of.ensures ∙ kind_at c.args.vocabulary.now c.args.bytes.now c.args.tokens.now c.args.at _ c.if-at-tokens.true

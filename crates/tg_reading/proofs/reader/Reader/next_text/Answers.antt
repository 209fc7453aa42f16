use Rattle.std.proofs.Common.{◌∙◌}
use Rattle.tg_reading.proofs.Left.{text_left}
use Rattle.tg_reading.proofs.reader.Reader.next_text.Goals as goal

pub returns-then-self : goal.returns-then-self
returns-then-self c = c.text_of.ensures ∙ text_left c.self.inside.vocabulary c.self.inside.bytes.now c.self.inside.tokens.now c.args.self.now c.self.inside.at _ c.self.view_is c.if-self.true

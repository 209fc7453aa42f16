use Rattle.tg_reading.proofs.Left.{advanced}
use Rattle.tg_reading.proofs.reader.Reader.advance.Goals as goal

pub returns-then-self : goal.returns-then-self
returns-then-self c = advanced c.self.inside.vocabulary c.self.inside.bytes.now c.self.inside.tokens.now c.args.self.now c.self.inside.at c.self.view_is

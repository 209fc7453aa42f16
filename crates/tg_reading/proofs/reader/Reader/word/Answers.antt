use Rattle.std.proofs.Common.{sym, ◌∙◌}
use Rattle.tg_grammar.specs.First.{words}
use Rattle.tg_reading.proofs.Left.{name_taken}
use Rattle.tg_reading.proofs.reader.Reader.word.Goals as goal

pub returns-in-Some-clause-exact : goal.returns-in-Some-clause-exact
returns-in-Some-clause-exact c =
    name_taken words c.args.self.now c.name.new.self c.in-Some.kind c.name.result (sym c.next_kind.ensures ∙ c.in-Some.is)
    (sym c.is_word.ensures ∙ c.if-is_word.true) c.name.ensures.text c.name.ensures.left c.name.ensures.stop

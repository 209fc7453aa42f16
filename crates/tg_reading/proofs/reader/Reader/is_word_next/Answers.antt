use Rattle.std.proofs.Common.{sym, ◌∙◌}
use Rattle.tg_grammar.specs.First.{words}
use Rattle.tg_reading.proofs.Left.{next_starts}
use Rattle.tg_reading.proofs.reader.Reader.is_word_next.Goals as goal

pub returns-in-Some : goal.returns-in-Some
returns-in-Some c = c.is_word.ensures ∙ next_starts words c.args.self.now c.in-Some.kind (sym c.next_kind.ensures ∙ c.in-Some.is)

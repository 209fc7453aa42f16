use Rattle.std.proofs.Common.{◌∙◌, ap}
use Rattle.tg_tables.specs.Rows.{entries_of}
use Rattle.tg_grammar.specs.Seen.{word_kind}
use Rattle.tg_grammar.proofs.WordKinds.{kind_found, kind_of_other, short_word}
use Rattle.tg_grammar.proofs.words.Vocabulary.kind.Goals as goal

pub returns-in-Some : goal.returns-in-Some
returns-in-Some c =
    kind_found (entries_of c.self.inside.rows.now) c.args.word.now c.find_row.result c.in-Some.at c.code_at.result c.find_row.ensures.exact c.in-Some.is c.code_at.ensures
    ∙ ap (λ es. word_kind es c.args.word.now) c.self.view_is

pub returns-in-None : goal.returns-in-None
returns-in-None c =
    kind_of_other (entries_of c.self.inside.rows.now) c.args.word.now c.find_row.result c.find_row.ensures.exact c.in-None.is
    ∙ ap (λ es. word_kind es c.args.word.now) c.self.view_is

pub returns-then-word-eq1 : goal.returns-then-word-eq1
returns-then-word-eq1 c =
    short_word (entries_of c.self.inside.rows.now) c.args.word.now c.self.invariant.1 c.if-word-eq1.true
    ∙ ap (λ es. word_kind es c.args.word.now) c.self.view_is

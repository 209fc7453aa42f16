use Rattle.std.proofs.Common.{refl}
use Rattle.tg_tables.specs.Rows.{names}
use Rattle.tg_tables.proofs.Places.{Rises_from_test}
use Rattle.tg_grammar.specs.Words.{version_one}
use Rattle.tg_grammar.proofs.words.Vocabulary.version_one.Goals as goal

pub invariant_of-result : goal.invariant_of-result
invariant_of-result c = (Rises_from_test (names version_one) refl, refl)

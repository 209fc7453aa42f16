-- A setting in the header of outcomes.
use Rattle.std.specs.Prelude.{ℕ, List}
use Rattle.tg_rules.specs.Reader.{Read}
use Rattle.tg_grammar.specs.Seen.{Seen}
use Rattle.tg_grammar.specs.First.{numbers}
use Rattle.tg_reading.specs.Answers.{behind, value_at}

-- a word and its number
unfoldable pub setting : ℕ → List Seen → Read Seen ℕ
setting k ts = behind k (value_at numbers) ts

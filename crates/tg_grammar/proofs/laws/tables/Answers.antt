use Rattle.tg_grammar.proofs.Readings.{same_readings}
use Rattle.tg_grammar.proofs.laws.tables.Goals as goal

pub returns : goal.returns
returns c = same_readings

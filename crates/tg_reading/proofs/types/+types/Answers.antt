use Rattle.tg_reading.proofs.Rules.{several_read}
use Rattle.tg_reading.proofs.types.+types.Goals as goal

pub behind_first-returns-clause-exact : goal.behind_first-returns-clause-exact
behind_first-returns-clause-exact t c =
    several_read c.args.first c.args.reader.now c.skips.new.self c.take.new.self c.types.new.reader c.take-2.new.self c.word.new.self _ _ c.in_ok-types.types c.in_ok-word.field-0
    c.if-skips.ensures.0 c.if-skips.ensures.2 c.in_ok-take.ensures.exact c.in_ok-types.ensures.exact c.in_ok-take-2.ensures.exact c.in_ok-word.ensures.exact

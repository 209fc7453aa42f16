use Rattle.std.proofs.Common.{rules}
use Rattle.tg_reading.proofs.PatternRules.{patterns}
use Rattle.tg_reading.proofs.pattern.patterns.Goals as goal

pub returns-in_err-pattern-clause-exact : goal.returns-in_err-pattern-clause-exact
returns-in_err-pattern-clause-exact c = search (rules, patterns)

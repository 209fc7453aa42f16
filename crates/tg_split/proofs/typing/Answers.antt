use Rattle.tg_split.proofs.TypedPatterns.{patterns_are_typed, each_pattern_is_typed}
use Rattle.tg_split.proofs.typing.Goals as goal

pub returns-clause-patterns : goal.returns-clause-patterns
returns-clause-patterns c = patterns_are_typed

pub returns-clause-each : goal.returns-clause-each
returns-clause-each c = each_pattern_is_typed

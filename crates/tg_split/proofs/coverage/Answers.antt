use Rattle.tg_split.proofs.Covering.{covers_once, covers_each_once, patterns_are_linear}
use Rattle.tg_split.proofs.coverage.Goals as goal

pub returns-clause-once : goal.returns-clause-once
returns-clause-once c = covers_once

pub returns-clause-each_once : goal.returns-clause-each_once
returns-clause-each_once c = covers_each_once

pub returns-clause-linear : goal.returns-clause-linear
returns-clause-linear c = patterns_are_linear

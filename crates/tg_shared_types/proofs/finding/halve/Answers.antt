use Rattle.tg_shared_types.proofs.NodeLaws.{halved, halved_weights}
use Rattle.tg_shared_types.proofs.finding.halve.Goals as goal

pub returns-in-Link-clause-fits : goal.returns-in-Link-clause-fits
returns-in-Link-clause-fits c = halved _ _ _ _ c.requires.table c.requires.inside c.requires.link _ c.index-nodes-next.is c.in-Link.is

pub returns-in-Link-clause-weights : goal.returns-in-Link-clause-weights
returns-in-Link-clause-weights c = halved_weights _ _ _ _ c.requires.table c.requires.inside c.requires.link _ c.index-nodes-next.is c.in-Link.is

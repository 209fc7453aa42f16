use Rattle.tg_rules.proofs.Heights.{by_rule, of_rule}
use Rattle.tg_rules.proofs.Whole.{one_reading}
use Rattle.tg_rules.proofs.laws.texts.Goals as goal

pub returns-clause-rules : goal.returns-clause-rules
returns-clause-rules g c n v ts = let G = g.G.Grammar in (of_rule G.kind G.rule n v ts, by_rule G.kind G.rule n v ts)

pub returns-clause-one : goal.returns-clause-one
returns-clause-one g c = let G = g.G.Grammar in one_reading G.kind G.rule G.foresight G.token G.sample G.pass

use Rattle.tg_rules.specs.Texts.{Reads}
use Rattle.tg_rules.proofs.Places.{begins_front, one_fault, not_both, fault_is_longest}
use Rattle.tg_rules.proofs.Whole.{text_or_fault, fault_read, fault_behind}
use Rattle.tg_rules.proofs.laws.faults.Goals as goal

pub returns-clause-some : goal.returns-clause-some
returns-clause-some g c = let G = g.G.Grammar in text_or_fault G.kind G.rule G.foresight G.token G.sample G.pass

pub returns-clause-not_both : goal.returns-clause-not_both
returns-clause-not_both g c n v ts front left = not_both (Reads g.G.Grammar.kind g.G.Grammar.rule n) v ts front left

pub returns-clause-one : goal.returns-clause-one
returns-clause-one g c n = one_fault (Reads g.G.Grammar.kind g.G.Grammar.rule n)

pub returns-clause-longest : goal.returns-clause-longest
returns-clause-longest g c n = fault_is_longest (Reads g.G.Grammar.kind g.G.Grammar.rule n)

pub returns-clause-fronts : goal.returns-clause-fronts
returns-clause-fronts g c n = begins_front (Reads g.G.Grammar.kind g.G.Grammar.rule n)

pub returns-clause-stops : goal.returns-clause-stops
returns-clause-stops g c = let G = g.G.Grammar in fault_read G.kind G.rule G.foresight G.token G.sample G.pass

pub returns-clause-behind : goal.returns-clause-behind
returns-clause-behind g c = let G = g.G.Grammar in fault_behind G.kind G.rule G.foresight G.token G.sample G.pass

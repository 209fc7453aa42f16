use Rattle.tg_grammar.proofs.Readings.{one_value, text_or_fault, not_both, one_fault, fault_is_longest}
use Rattle.tg_grammar.proofs.laws.texts.Goals as goal

pub returns-clause-one : goal.returns-clause-one
returns-clause-one c = one_value

pub returns-clause-some : goal.returns-clause-some
returns-clause-some c = text_or_fault

pub returns-clause-not_both : goal.returns-clause-not_both
returns-clause-not_both c = not_both

pub returns-clause-one_fault : goal.returns-clause-one_fault
returns-clause-one_fault c = one_fault

pub returns-clause-longest : goal.returns-clause-longest
returns-clause-longest c = fault_is_longest

use Rattle.tg_grammar.proofs.Readings.{reads_by_rule, reads_texts, stops_at_fault, stops_before_fault}
use Rattle.tg_grammar.proofs.laws.reading.Goals as goal

pub returns-clause-rules : goal.returns-clause-rules
returns-clause-rules c = reads_by_rule

pub returns-clause-texts : goal.returns-clause-texts
returns-clause-texts c = reads_texts

pub returns-clause-stops : goal.returns-clause-stops
returns-clause-stops c = stops_at_fault

pub returns-clause-behind : goal.returns-clause-behind
returns-clause-behind c = stops_before_fault

use Rattle.tg_rules.proofs.ExamplePages.{same_readings}
use Rattle.tg_rules.proofs.KnownValues.{to_the_left_alone, second_minus, not_closed, two_behind}
use Rattle.tg_rules.proofs.laws.differences.Goals as goal

pub returns-clause-tables : goal.returns-clause-tables
returns-clause-tables c = same_readings

pub returns-clause-left : goal.returns-clause-left
returns-clause-left c = to_the_left_alone

pub returns-clause-minus : goal.returns-clause-minus
returns-clause-minus c = second_minus

pub returns-clause-end : goal.returns-clause-end
returns-clause-end c = not_closed

pub returns-clause-behind : goal.returns-clause-behind
returns-clause-behind c = two_behind

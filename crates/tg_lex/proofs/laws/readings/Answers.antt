use Rattle.tg_lex.proofs.Ends.{reading_or_fault}
use Rattle.tg_lex.proofs.Unique.{one_reading, no_fault, one_first_fault}
use Rattle.tg_lex.proofs.laws.readings.Goals as goal

pub returns-clause-one : goal.returns-clause-one
returns-clause-one c = one_reading

pub returns-clause-one_fault : goal.returns-clause-one_fault
returns-clause-one_fault c bytes f g m n ts us a b = one_first_fault bytes ts us f g m n a b

pub returns-clause-not_both : goal.returns-clause-not_both
returns-clause-not_both c bytes f at ts us a b = no_fault bytes ts us f at a b

pub returns-clause-some : goal.returns-clause-some
returns-clause-some c = reading_or_fault

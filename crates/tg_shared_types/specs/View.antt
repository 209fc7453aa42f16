-- What two roots say together, as the program has it.
use Rattle.tg_shared_types.specs.declared.joining.Meeting.{Meeting}
use Rattle.tg_shared_types.specs.declared.joining.Meeting.TheVariants.{First, Second, Parts, Never}
use Rattle.tg_shared_types.specs.Pairs as pairs

abbrev pub meeting : Meeting → pairs.Meeting
meeting First = pairs.first
meeting Second = pairs.second
meeting (Parts ks ls) = pairs.parts ks.now ls.now
meeting Never = pairs.never

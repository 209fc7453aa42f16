use Rattle.std.proofs.Common.{drop}
use Rattle.tg_accept.specs.Standing.{declared_in}
use Rattle.tg_standing.proofs.ValueLaws.{Stands}
use Rattle.tg_standing.proofs.values.+meant.Given as goal

abbrev pub invariant-all_meant-loop-t : goal.invariant-all_meant-loop-t
invariant-all_meant-loop-t l = Stands (declared_in l.th) l.raw l.all (drop l.t-index l.raw)

use Rattle.std.proofs.Common.{drop}
use Rattle.tg_infer.proofs.TypeLaws.{Stands}
use Rattle.tg_infer.proofs.types.+types.Given as goal

abbrev pub invariant-types_of_raw-loop-t : goal.invariant-types_of_raw-loop-t
invariant-types_of_raw-loop-t l = Stands l.params l.names l.ts l.all (drop l.t-index l.ts)

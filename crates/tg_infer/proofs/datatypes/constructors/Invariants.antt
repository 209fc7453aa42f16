use Rattle.std.proofs.Common.{drop, map}
use Rattle.tg_accept.specs.Datatypes.{constructor_meant}
use Rattle.tg_declarations.specs.View.{constructor}
use Rattle.tg_infer.specs.View.{raw_constructor}
use Rattle.tg_infer.proofs.EachLaws.{StandsEach}
use Rattle.tg_infer.proofs.datatypes.constructors.Given as goal

abbrev pub invariant-loop-con : goal.invariant-loop-con
invariant-loop-con l =
    StandsEach (constructor_meant l.params l.names) (map raw_constructor l.cons) (map constructor l.all) (map raw_constructor (drop l.con-index l.cons))

use Rattle.std.proofs.Common.{◌≡◌, map, take}
use Rattle.tg_types.specs.Types.{ty}
use Rattle.tg_declarations.specs.View.{constructor}
use Rattle.tg_kernel.specs.Arguments.{at_instance}
use Rattle.tg_kernel.proofs.constructors.of_constructors.Given as goal

abbrev pub invariant-loop-con : goal.invariant-loop-con
invariant-loop-con l = map (map ty) l.cases.items ≡ map (at_instance (map ty l.us)) (map constructor (take l.con-index l.cons))

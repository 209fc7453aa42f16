use Rattle.std.proofs.Common.{◌≡◌, map, take}
use Rattle.tg_model.specs.Theory.{instance}
use Rattle.tg_types.specs.Types.{ty}
use Rattle.tg_kernel.proofs.constructors.instances.Given as goal

abbrev pub invariant-loop-t : goal.invariant-loop-t
invariant-loop-t l = map ty l.all ≡ map (instance (map ty l.us)) (map ty (take l.t-index l.ts))

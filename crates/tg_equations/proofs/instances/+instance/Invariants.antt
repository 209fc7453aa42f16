use Rattle.std.proofs.Common.{◌≡◌, ◌+◌, ◌*◌, map, take}
use Rattle.tg_model.specs.Theory.{instance}
use Rattle.tg_types.specs.Types.{ty, types}
use Rattle.tg_shared_types.proofs.Sizes.{size, sizes}
use Rattle.tg_equations.proofs.instances.+instance.Given as goal

abbrev pub decreases-instance : goal.decreases-instance
decreases-instance l = 2 * size (ty l.t.now)

abbrev pub decreases-instances : goal.decreases-instances
decreases-instances l = 2 * sizes (types l.ts.now) + 1

abbrev pub invariant-instances-loop-t : goal.invariant-instances-loop-t
invariant-instances-loop-t l = map ty l.all ≡ map (instance (map ty l.us)) (map ty (take l.t-index l.ts))

use Rattle.std.proofs.Common.{◌≡◌, ◌++◌, map, take}
use Rattle.tg_model.specs.Theory.{instance}
use Rattle.tg_types.specs.Types.{ty}
use Rattle.tg_equations.proofs.left_sides.push_instances.Given as goal

abbrev pub invariant-loop-t : goal.invariant-loop-t
invariant-loop-t l = map ty l.all ≡ map ty l.initial.all ++ map (instance (map ty l.us)) (map ty (take l.t-index l.ts))

use Rattle.std.proofs.Common.{take}
use Rattle.tg_types.specs.Types.{types}
use Rattle.tg_shared_types.specs.Growth.{PlantsAll}
use Rattle.tg_typing.proofs.opening.plant_all.Given as goal

abbrev pub invariant-loop-t : goal.invariant-loop-t
invariant-loop-t l = PlantsAll l.initial.table l.given (types (take l.t-index l.ts)) l.table l.ks

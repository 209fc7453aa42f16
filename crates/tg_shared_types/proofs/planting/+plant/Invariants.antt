use Rattle.std.proofs.Common.{◌+◌, ◌*◌, take}
use Rattle.tg_types.specs.Types.{ty, types}
use Rattle.tg_shared_types.specs.Nodes.{IsNodeTable}
use Rattle.tg_shared_types.specs.Growth.{PlantsAll}
use Rattle.tg_shared_types.proofs.Sizes.{size, sizes}
use Rattle.tg_shared_types.proofs.planting.+plant.Given as goal

abbrev pub invariant-plant_all-loop-t : goal.invariant-plant_all-loop-t
invariant-plant_all-loop-t l = record {
  table : IsNodeTable l.nodes.items;
  plants : PlantsAll l.initial.nodes.items l.given (types (take l.t-index l.ts)) l.nodes.items l.ks.items;
}

abbrev pub decreases-plant : goal.decreases-plant
decreases-plant l = 2 * size (ty l.t.now)

abbrev pub decreases-plant_all : goal.decreases-plant_all
decreases-plant_all l = 2 * sizes (types l.ts.now) + 1

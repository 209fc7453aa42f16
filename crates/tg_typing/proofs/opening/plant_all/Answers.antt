use Rattle.std.proofs.Common.{[], length, sym, subst}
use Rattle.tg_types.specs.Types.{types}
use Rattle.tg_shared_types.specs.Growth.{PlantsAll}
use Rattle.tg_shared_types.proofs.GrowthLaws.{plants_none, plants_next, below_grown, declared_at}
use Rattle.tg_typing.proofs.opening.plant_all.Goals as goal

pub loop-t-init : goal.loop-t-init
loop-t-init c = subst (PlantsAll c.args.table.now c.args.given.now (types []) c.args.table.now) (sym c.new-ks.ensures) (plants_none c.args.table.now c.args.given.now)

pub plant-requires-clause-given : goal.plant-requires-clause-given
plant-requires-clause-given c =
    below_grown (length c.args.table.now) (length c.loop-t.table) c.args.given.now c.loop-t.invariant.grows.longer c.requires.given

pub plant-requires-clause-declared : goal.plant-requires-clause-declared
plant-requires-clause-declared c = declared_at c.args.ts.now c.loop-t.t-index c.t-item.result c.requires.declared c.loop-t-test.true c.t-item.is

pub loop-t-preserved : goal.loop-t-preserved
loop-t-preserved c =
    plants_next c.args.table.now c.loop-t.table c.plant.new.self c.args.given.now c.loop-t.ks c.push.new.self c.in_ok-k.k c.args.ts.now c.loop-t.t-index
    c.t-item.result c.loop-t-test.true c.t-item.is c.loop-t.invariant c.in_ok-k.ensures c.in_ok-push.ensures.ok

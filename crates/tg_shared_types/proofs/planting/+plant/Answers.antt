use Rattle.std.proofs.Common.{arith, suc, ◌≡◌, length, ◌∙◌, sym, ap, subst, ◌≤◌}
use Rattle.std.specs.Prelude.{IfOk}
use Rattle.tg_types.specs.Types.{ty, types, ty-Nat, ty-Bool, ty-App}
use Rattle.tg_model.specs.Types as model
use Rattle.tg_shared_types.specs.Growth.{Plants, PlantsAll, IsDeclared}
use Rattle.tg_shared_types.proofs.Sizes.{size, sizes, size_at}
use Rattle.tg_shared_types.proofs.GrowthLaws.{if_nat, if_bool, if_applied, plants_next, declared_at, below_grown}
use Rattle.tg_shared_types.proofs.planting.+plant.Goals as goal

pub plant-returns-in-Nat-clause-plants : goal.plant-returns-in-Nat-clause-plants
plant-returns-in-Nat-clause-plants t c =
    subst (λ x. IfOk c.push.result (λ at. Plants c.args.nodes.now.items c.args.given.now x c.push.new.nodes.items at)) (sym (ap ty c.in-Nat.is ∙ ty-Nat))
    (if_nat c.args.nodes.now.items c.args.given.now c.requires.table c.push.new.nodes.items c.push.result c.push.ensures.ok c.push.ensures.place)

pub plant-returns-in-Bool-clause-plants : goal.plant-returns-in-Bool-clause-plants
plant-returns-in-Bool-clause-plants t c =
    subst (λ x. IfOk c.push-in-Bool.result (λ at. Plants c.args.nodes.now.items c.args.given.now x c.push-in-Bool.new.nodes.items at)) (sym (ap ty c.in-Bool.is ∙ ty-Bool))
    (if_bool c.args.nodes.now.items c.args.given.now c.requires.table c.push-in-Bool.new.nodes.items c.push-in-Bool.result c.push-in-Bool.ensures.ok
    c.push-in-Bool.ensures.place)

pub plant-returns-in_ok-ks-in-App-clause-plants : goal.plant-returns-in_ok-ks-in-App-clause-plants
plant-returns-in_ok-ks-in-App-clause-plants t c =
    let p : PlantsAll c.args.nodes.now.items c.args.given.now (types c.in-App.ts) c.plant_all.new.nodes.items c.from_vec.result =
    subst (λ x. PlantsAll c.args.nodes.now.items c.args.given.now (types c.in-App.ts) c.plant_all.new.nodes.items x) (sym c.from_vec.ensures)
    (subst (λ x. PlantsAll c.args.nodes.now.items c.args.given.now (types x) c.plant_all.new.nodes.items c.in_ok-ks-in-App.ks.items) c.as_slice.ensures c.in_ok-ks-in-App.ensures.plants) in
    subst (λ x. IfOk c.push-in-App.result (λ at. Plants c.args.nodes.now.items c.args.given.now x c.push-in-App.new.nodes.items at))
    (sym (ap ty c.in-App.is ∙ ty-App c.in-App.d c.in-App.ts))
    (if_applied c.args.nodes.now.items c.args.given.now c.requires.table c.in-App.d (types c.in-App.ts) c.plant_all.new.nodes.items c.from_vec.result
    c.push-in-App.new.nodes.items c.push-in-App.result c.in_ok-ks-in-App.ensures.table p c.push-in-App.ensures.ok c.push-in-App.ensures.place)

pub plant_all-loop-t-preserved : goal.plant_all-loop-t-preserved
plant_all-loop-t-preserved t c = record {
  table = c.in_ok-k.ensures.table;
  plants = plants_next c.args.nodes.now.items c.loop-t.nodes.items c.plant.new.nodes.items c.args.given.now c.loop-t.ks.items c.push.new.self.items c.in_ok-k.k
      c.args.ts.now c.loop-t.t-index c.t-item.result c.loop-t-test.true c.t-item.is c.loop-t.invariant.plants c.in_ok-k.ensures.plants c.in_ok-push.ensures.items;
}

pub plant-plant_all-requires : goal.plant-plant_all-requires
plant-plant_all-requires t c =
    let e : ty c.args.t.now ≡ model.applied c.in-App.d (types c.as_slice.result.now) =
    ap ty c.in-App.is ∙ ty-App c.in-App.d c.in-App.ts ∙ ap (λ ts. model.applied c.in-App.d (types ts)) (sym c.as_slice.ensures) in
    let s : size (ty c.args.t.now) ≡ suc (sizes (types c.as_slice.result.now)) = ap size e in
    (omega (arith, c.decreases, s), (c.requires.table, (c.requires.given, subst IsDeclared e c.requires.declared)))

pub plant_all-plant-requires : goal.plant_all-plant-requires
plant_all-plant-requires t c =
    let s : size (ty c.t-item.result) ≤ sizes (types c.args.ts.now) = size_at c.args.ts.now c.loop-t.t-index c.t-item.result c.loop-t-test.true c.t-item.is in (
      omega (arith, c.decreases, s),
      (
        c.loop-t.invariant.table,
        (
          below_grown (length c.args.nodes.now.items) (length c.loop-t.nodes.items) c.args.given.now c.loop-t.invariant.plants.grows.longer c.requires.given,
          declared_at c.args.ts.now c.loop-t.t-index c.t-item.result c.requires.declared c.loop-t-test.true c.t-item.is,
        ),
      ),
    )

use Rattle.std.proofs.Common.{◌≤◌, [], sym, subst, ap, ◌∙◌, arith}
use Rattle.std.specs.Prelude.{IfOk}
use Rattle.tg_types.specs.Types.{ty, types, ty-Nat, ty-Bool, ty-Param, ty-App}
use Rattle.tg_shared_types.proofs.Sizes.{size, sizes, size_at}
use Rattle.tg_shared_types.proofs.GrowthLaws.{declared_at}
use Rattle.tg_typing.specs.Nodes.{Stands, AllStand}
use Rattle.tg_typing.proofs.Standing.{if_nat, if_bool, if_parameter, if_applied, stand_none, stand_next}
use Rattle.tg_typing.proofs.opening.+state.Goals as goal

pub state-returns-in-Nat : goal.state-returns-in-Nat
state-returns-in-Nat t c =
    subst (λ x. IfOk c.push.result (λ at. Stands c.args.table.now x c.push.new.self at)) (sym (ap ty c.in-Nat.is ∙ ty-Nat))
    (if_nat c.args.table.now c.push.new.self c.push.result c.push.ensures.table c.push.ensures.ok c.push.ensures.place)

pub state-returns-in-Bool : goal.state-returns-in-Bool
state-returns-in-Bool t c =
    subst (λ x. IfOk c.push-in-Bool.result (λ at. Stands c.args.table.now x c.push-in-Bool.new.self at)) (sym (ap ty c.in-Bool.is ∙ ty-Bool))
    (if_bool c.args.table.now c.push-in-Bool.new.self c.push-in-Bool.result c.push-in-Bool.ensures.table c.push-in-Bool.ensures.ok
    c.push-in-Bool.ensures.place)

pub state-returns-in-Param : goal.state-returns-in-Param
state-returns-in-Param t c =
    subst (λ x. IfOk c.push-in-Param.result (λ at. Stands c.args.table.now x c.push-in-Param.new.self at))
    (sym (ap ty c.in-Param.is ∙ ty-Param c.in-Param.n))
    (if_parameter c.args.table.now c.in-Param.n c.push-in-Param.new.self c.push-in-Param.result c.push-in-Param.ensures.table c.push-in-Param.ensures.ok
    c.push-in-Param.ensures.place)

pub state-returns-in_ok-ks-in-App : goal.state-returns-in_ok-ks-in-App
state-returns-in_ok-ks-in-App t c =
    let p : AllStand c.args.table.now (types c.in-App.ts) c.state_all.new.table c.in_ok-ks-in-App.ks =
    subst (λ x. AllStand c.args.table.now (types x) c.state_all.new.table c.in_ok-ks-in-App.ks) c.as_slice.ensures c.in_ok-ks-in-App.ensures in
    subst (λ x. IfOk c.push-in-App.result (λ at. Stands c.args.table.now x c.push-in-App.new.self at))
    (sym (ap ty c.in-App.is ∙ ty-App c.in-App.d c.in-App.ts))
    (if_applied c.args.table.now c.in-App.d (types c.in-App.ts) c.state_all.new.table c.in_ok-ks-in-App.ks c.push-in-App.new.self c.push-in-App.result
    c.push-in-App.ensures.table p c.push-in-App.ensures.ok c.push-in-App.ensures.place)

pub state_all-loop-t-init : goal.state_all-loop-t-init
state_all-loop-t-init t c = subst (AllStand c.args.table.now (types []) c.args.table.now) (sym c.new-ks.ensures) (stand_none c.args.table.now)

pub state_all-loop-t-preserved : goal.state_all-loop-t-preserved
state_all-loop-t-preserved t c =
    stand_next c.args.table.now c.loop-t.table c.state.new.table c.loop-t.ks c.push.new.self c.in_ok-k.k c.args.ts.now c.loop-t.t-index
    c.t-item.result c.loop-t-test.true c.t-item.is c.loop-t.invariant c.in_ok-k.ensures c.in_ok-push.ensures.ok

pub state_all-state-requires : goal.state_all-state-requires
state_all-state-requires t c =
    let s : size (ty c.t-item.result) ≤ sizes (types c.args.ts.now) = size_at c.args.ts.now c.loop-t.t-index c.t-item.result c.loop-t-test.true c.t-item.is in
    (omega (arith, c.decreases, s), declared_at c.args.ts.now c.loop-t.t-index c.t-item.result c.requires c.loop-t-test.true c.t-item.is)

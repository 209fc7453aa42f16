use Rattle.std.proofs.Common.{[], refl, sym, subst}
use Rattle.tg_model.specs.Types.{tys}
use Rattle.tg_typing.specs.Nodes.{AllStand}
use Rattle.tg_typing.proofs.Standing.{stand_none, parameters_next}
use Rattle.tg_typing.proofs.typings.state_parameters.Goals as goal

pub loop-n-init : goal.loop-n-init
loop-n-init c = subst (AllStand c.args.table.now (tys []) c.args.table.now) (sym c.new-ks.ensures) (stand_none c.args.table.now)

pub loop-n-preserved : goal.loop-n-preserved
loop-n-preserved c =
    parameters_next c.args.table.now c.loop-n.table c.push.new.self c.loop-n.ks c.push-in-loop-n.new.self c.in_ok-k.k c.loop-n.n _ c.in_ok-k.ensures.table
    c.loop-n.invariant refl c.in_ok-k.ensures.ok c.in_ok-k.ensures.place c.in_ok-push.ensures.ok

use Rattle.std.proofs.Common.{sym, subst}
use Rattle.tg_typing.specs.Nodes.{AreOpened}
use Rattle.tg_typing.proofs.Opened.{none_opened, opened_on}
use Rattle.tg_typing.proofs.opening.open_nodes.Goals as goal

pub loop-init : goal.loop-init
loop-init c = subst (λ ks. AreOpened c.args.table.now c.args.table.now ks 0) (sym c.new-ks.ensures) (none_opened c.args.table.now)

pub loop-preserved : goal.loop-preserved
loop-preserved c =
    opened_on c.args.table.now c.loop.table c.push.new.self c.loop.ks c.push-in-loop.new.self c.in_ok-k.k c.loop.counter c.in_ok-k.ensures.table
    c.loop.invariant c.in_ok-k.ensures.ok c.in_ok-k.ensures.place c.in_ok-push.ensures.ok

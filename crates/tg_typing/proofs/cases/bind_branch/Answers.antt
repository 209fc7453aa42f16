use Rattle.std.proofs.Common.{sym, ◌∙◌, subst}
use Rattle.tg_typing.specs.Contexts.{theory_in}
use Rattle.tg_typing.specs.Cases.{PlantsHead}
use Rattle.tg_typing.specs.View.{head}
use Rattle.tg_typing.proofs.CaseNodes.{other_count}
use Rattle.tg_typing.proofs.cases.bind_branch.Goals as goal

pub returns-then-len : goal.returns-then-len
returns-then-len c =
    let h = subst (PlantsHead (theory_in c.args.context.now) c.args.table.now c.plant_head.new.table c.args.n c.args.us.now (head c.args.b.now.head))
    c.in-Some.is c.in_ok-ks.ensures in
    other_count (theory_in c.args.context.now) c.args.table.now c.plant_head.new.table c.args.n c.args.us.now (head c.args.b.now.head) c.args.b.now.names
    c.args.locs.now.items c.args.locs.now.items c.in-Some.ks c.requires.given h (λ e. c.if-len.true (c.len.ensures ∙ e ∙ sym c.len-2.ensures))

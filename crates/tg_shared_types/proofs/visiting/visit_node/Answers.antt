use Rattle.std.proofs.lemmas.Result.{on_ok_weaker}
use Rattle.tg_shared_types.proofs.VisitLaws.{next_below, next_fewer}
use Rattle.tg_shared_types.proofs.visiting.visit_node.Goals as goal

pub returns-clause-list : goal.returns-clause-list
returns-clause-list c =
    on_ok_weaker c.push_parts.result
    (λ e. next_below c.args.nodes.now c.args.visited.now c.args.list.now.items c.push.new.self.items c.push_parts.new.list.items c.args.at
    c.index-nodes-at.result c.requires.table c.requires.long c.requires.list c.requires.inside c.index-nodes-at.is c.if-visited-at.false c.in_ok-push.ensures.items e)
    c.push_parts.ensures

pub returns-clause-fewer : goal.returns-clause-fewer
returns-clause-fewer c =
    on_ok_weaker c.push_parts.result
    (λ e. next_fewer c.args.nodes.now c.args.visited.now c.args.list.now.items c.push.new.self.items c.push_parts.new.list.items c.args.at
    c.index-nodes-at.result c.requires.table c.requires.long c.requires.list c.requires.inside c.index-nodes-at.is c.if-visited-at.false c.in_ok-push.ensures.items e)
    c.push_parts.ensures

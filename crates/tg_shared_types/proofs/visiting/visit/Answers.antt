use Rattle.std.proofs.Common.{length}
use Rattle.tg_shared_types.proofs.VisitLaws.{popped}
use Rattle.tg_shared_types.proofs.visiting.visit.Goals as goal

pub visit_node-requires-clause-list : goal.visit_node-requires-clause-list
visit_node-requires-clause-list c =
    (popped (length c.args.nodes.now) c.loop-at.list.items c.pop.new.self.items c.in-Some.at c.in-Some.ensures.items c.loop-at.invariant.below).0

pub visit_node-requires-clause-inside : goal.visit_node-requires-clause-inside
visit_node-requires-clause-inside c =
    (popped (length c.args.nodes.now) c.loop-at.list.items c.pop.new.self.items c.in-Some.at c.in-Some.ensures.items c.loop-at.invariant.below).1

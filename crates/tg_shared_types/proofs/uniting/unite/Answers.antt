use Rattle.std.proofs.Common.{arith, sym, subst, length}
use Rattle.tg_shared_types.specs.Pairs.{PairsBelow}
use Rattle.tg_shared_types.proofs.UniteLaws.{popped_below}
use Rattle.tg_shared_types.proofs.uniting.unite.Goals as goal

pub unite_pair-requires-clause-work : goal.unite_pair-requires-clause-work
unite_pair-requires-clause-work c =
    let p = popped_below (length c.args.nodes.now) c.loop-a.work.items c.pop.new.self.items (c.in-Some.a, c.in-Some.b) c.in-Some.ensures.items c.loop-a.invariant.below in
    subst (λ n. PairsBelow n c.pop.new.self.items) (sym c.loop-a.invariant.long) p.0

pub unite_pair-requires-clause-a : goal.unite_pair-requires-clause-a
unite_pair-requires-clause-a c =
    let p = popped_below (length c.args.nodes.now) c.loop-a.work.items c.pop.new.self.items (c.in-Some.a, c.in-Some.b) c.in-Some.ensures.items c.loop-a.invariant.below in
    omega (arith, p.1, c.loop-a.invariant.long)

pub unite_pair-requires-clause-b : goal.unite_pair-requires-clause-b
unite_pair-requires-clause-b c =
    let p = popped_below (length c.args.nodes.now) c.loop-a.work.items c.pop.new.self.items (c.in-Some.a, c.in-Some.b) c.in-Some.ensures.items c.loop-a.invariant.below in
    omega (arith, p.2, c.loop-a.invariant.long)

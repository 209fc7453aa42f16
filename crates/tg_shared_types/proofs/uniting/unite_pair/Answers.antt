use Rattle.std.proofs.Common.{arith}
use Rattle.tg_shared_types.proofs.UniteLaws.{if_by_roots, if_by_roots_turned, by_one_root}
use Rattle.tg_shared_types.proofs.uniting.unite_pair.Goals as goal

pub returns-then-first-second-clause-carries : goal.returns-then-first-second-clause-carries
returns-then-first-second-clause-carries c = if_by_roots c.args.nodes.now c.find-first.new.nodes c.find-second.new.nodes c.args.work.now.items c.args.a c.args.b c.find-first.result c.find-second.result
    c.find-first.ensures.fits c.find-second.ensures.fits c.find-first.ensures.there c.find-second.ensures.there
    c.join.new.nodes c.join.new.work.items c.join.result c.join.ensures.carries

pub returns-then-second-first-clause-carries : goal.returns-then-second-first-clause-carries
returns-then-second-first-clause-carries c = if_by_roots_turned c.args.nodes.now c.find-first.new.nodes c.find-second.new.nodes c.args.work.now.items c.args.a c.args.b c.find-first.result c.find-second.result
    c.find-first.ensures.fits c.find-second.ensures.fits c.find-first.ensures.there c.find-second.ensures.there
    c.join-then-second-first.new.nodes c.join-then-second-first.new.work.items c.join-then-second-first.result c.join-then-second-first.ensures.carries

pub returns-else-second-first-clause-carries : goal.returns-else-second-first-clause-carries
returns-else-second-first-clause-carries c = by_one_root c.args.nodes.now c.find-first.new.nodes c.find-second.new.nodes c.args.work.now.items c.args.a c.args.b c.find-first.result c.find-second.result
    c.find-first.ensures.fits c.find-second.ensures.fits c.find-first.ensures.there c.find-second.ensures.there
    c.requires.work (omega (arith, c.if-first-second.false, c.if-second-first.false))

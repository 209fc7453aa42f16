use Rattle.std.proofs.Common.{[], arith}
use Rattle.tg_accept.specs.Declared.{theory}
use Rattle.tg_solver.specs.Candidates.{holds}
use Rattle.tg_solver.proofs.WalkLaws.{none_left, walk_found, walk_missed, walk_ended}
use Rattle.tg_solver.proofs.walking.+walk.Goals as goal

pub completed-returns-in-None : goal.completed-returns-in-None
completed-returns-in-None t c =
    none_left (holds (theory [] c.args.walk.now.declared.now)) c.args.walk.now.greatest c.args.most c.from.result c.args.vars.now.items c.args.stages.now c.in-None.ensures.cases (omega arith)

pub extended-returns-then-branch : goal.extended-returns-then-branch
extended-returns-then-branch t c =
    let test = holds (theory [] c.args.walk.now.declared.now) in
    walk_found test c.args.walk.now.greatest c.args.most c.first_worth-first.result c.last_number-last.result c.loop-n.n c.args.vars.now.items c.loop-n.vars.items c.args.stage.now c.args.rest.now
    c.last_number-last.ensures c.loop-n.invariant.kept c.loop-n.invariant.left (c.first_worth-first.ensures test c.args.vars.now.items c.args.stage.now)
    c.in_ok-tried.field-0 c.tried.new.vars.items (omega arith) c.if-branch.true c.in_ok-tried.ensures

pub extended-loop-n-preserved : goal.extended-loop-n-preserved
extended-loop-n-preserved t c =
    let test = holds (theory [] c.args.walk.now.declared.now) in
    let m = walk_missed test c.args.walk.now.greatest c.args.most c.first_worth-first.result c.last_number-last.result c.loop-n.n c.args.vars.now.items c.loop-n.vars.items c.args.stage.now c.args.rest.now
    c.last_number-last.ensures c.loop-n.invariant.kept c.loop-n.invariant.left (c.first_worth-first.ensures test c.args.vars.now.items c.args.stage.now)
    c.in_ok-tried.field-0 c.tried.new.vars.items (omega arith) c.if-branch.false c.in_ok-tried.ensures in
    record { kept = m.0; left = m.1 }

pub extended-returns : goal.extended-returns
extended-returns t c =
    let test = holds (theory [] c.args.walk.now.declared.now) in
    walk_ended test c.args.walk.now.greatest c.args.most c.first_worth-first.result c.last_number-last.result c.loop-n.n c.args.vars.now.items c.loop-n.vars.items c.args.stage.now c.args.rest.now
    c.last_number-last.ensures c.loop-n.invariant.kept c.loop-n.invariant.left (c.first_worth-first.ensures test c.args.vars.now.items c.args.stage.now) (omega arith)

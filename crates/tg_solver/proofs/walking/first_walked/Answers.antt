use Rattle.std.proofs.Common.{[]}
use Rattle.tg_accept.specs.Declared.{theory}
use Rattle.tg_solver.specs.Candidates.{holds}
use Rattle.tg_solver.proofs.WalkLaws.{next_found, next_missed, none_next}
use Rattle.tg_solver.proofs.walking.first_walked.Goals as goal

pub returns-then-branch : goal.returns-then-branch
returns-then-branch c =
    next_found (holds (theory [] c.args.declared.now)) c.args.stages.now c.args.most c.loop-below.below c.loop-below.vars.items c.completed.new.vars.items c.in_ok-completed.field-0
    c.loop-below-test.true c.if-branch.true c.loop-below.invariant.none c.loop-below.invariant.left c.in_ok-completed.ensures

pub loop-below-preserved : goal.loop-below-preserved
loop-below-preserved c =
    let m = next_missed (holds (theory [] c.args.declared.now)) c.args.stages.now c.args.most c.loop-below.below c.loop-below.vars.items c.completed.new.vars.items c.in_ok-completed.field-0
    c.loop-below-test.true c.if-branch.false c.loop-below.invariant.none c.loop-below.invariant.left c.in_ok-completed.ensures in
    record { none = m.0; left = m.1 }

pub returns : goal.returns
returns c = none_next (holds (theory [] c.args.declared.now)) c.args.stages.now c.args.most c.loop-below.below c.loop-below-test.false c.loop-below.invariant.left

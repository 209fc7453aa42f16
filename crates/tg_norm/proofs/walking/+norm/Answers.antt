use Rattle.std.proofs.Common.{rules, take, arith}
use Rattle.tg_norm.specs.Normal.{IsPassed}
use Rattle.tg_norm.specs.Walking.{or_else}
use Rattle.tg_norm.proofs.PartLaws.{read_more, read_passed, reached_all}
use Rattle.tg_norm.proofs.walking.+norm.Goals as goal

pub walk_arguments-returns-in_err-form-clause-steps : goal.walk_arguments-returns-in_err-form-clause-steps
walk_arguments-returns-in_err-form-clause-steps t c = λ e.
    let p : IsPassed c.args.th.now c.loop-at.run.left c.args.levels c.index-ts-at.result = search rules in
    read_passed c.args.th.now c.args.levels c.args.run.now c.loop-at.run c.args.ts.now c.loop-at.at (or_else c.loop-at.forms.items (take c.loop-at.at c.args.ts.now))
    c.index-ts-at.result (omega (arith, c.loop-at-test.true)) c.index-ts-at.is c.loop-at.invariant p

pub walk_arguments-loop-at-preserved : goal.walk_arguments-loop-at-preserved
walk_arguments-loop-at-preserved t c =
    read_more c.args.th.now c.args.levels c.args.run.now c.loop-at.run c.walk.new.run c.args.ts.now c.loop-at.at c.loop-at.forms.items c.add_form.new.forms.items
    c.index-ts-at.result _ (omega (arith, c.loop-at-test.true)) c.index-ts-at.is c.loop-at.invariant c.in_ok-form.ensures.ok c.in_ok-add_form.ensures

pub walk_arguments-returns-clause-ok : goal.walk_arguments-returns-clause-ok
walk_arguments-returns-clause-ok t c =
    reached_all c.args.th.now c.args.levels c.args.run.now c.loop-at.run c.args.ts.now c.loop-at.at c.loop-at.forms.items (omega (arith, c.loop-at-test.false)) c.loop-at.invariant

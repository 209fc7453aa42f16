use Rattle.std.proofs.Common.{◌≡◌, true, false, Some, refl, arith, rules}
use Rattle.std.specs.Prelude.{slice_get}
use Rattle.std.proofs.lemmas.Option.{slice_get_read}
use Rattle.tg_typing.specs.View.{branches}
use Rattle.tg_typing.proofs.ResolvedSizes.{size_at, body_at}
use Rattle.tg_equations.specs.Checked.{each_branch}
use Rattle.tg_equations.specs.Placed.{passes}
use Rattle.tg_equations.proofs.CheckedLaws.{branch_fails, branch_passes}
use Rattle.tg_equations.proofs.cases.+cases.Goals as goal

pub pass_all-pass-requires : goal.pass_all-pass-requires
pass_all-pass-requires t c = (omega (arith, c.decreases, size_at c.args.ts.now c.loop-t.t-index c.t-item.result c.loop-t-test.true c.t-item.is), tt)

pub pass_branches-pass-requires : goal.pass_branches-pass-requires
pass_branches-pass-requires t c = (omega (arith, c.decreases, body_at c.args.bs.now c.loop-b.b-index c.b-item.result c.loop-b-test.true c.b-item.is), tt)

pub pass_branches-returns-then-not-branch : goal.pass_branches-returns-then-not-branch
pass_branches-returns-then-not-branch t c =
    let at : slice_get c.args.bs.now c.loop-b.b-index ≡ Some c.b-item.result = slice_get_read c.args.bs.now _ _ c.b-item.result refl c.loop-b-test.true c.b-item.is in
    let no : c.in_ok-pass.field-0 ≡ false = search rules in
    branch_fails (passes c.args.checks.now) c.args.bs.now c.loop-b.b-index c.b-item.result c.in_ok-pass.field-0 (each_branch (passes c.args.checks.now) (branches c.args.bs.now)) at
    c.in_ok-pass.ensures no c.loop-b.invariant

pub pass_branches-loop-b-preserved : goal.pass_branches-loop-b-preserved
pass_branches-loop-b-preserved t c =
    let at : slice_get c.args.bs.now c.loop-b.b-index ≡ Some c.b-item.result = slice_get_read c.args.bs.now _ _ c.b-item.result refl c.loop-b-test.true c.b-item.is in
    let yes : c.in_ok-pass.field-0 ≡ true = search rules in
    branch_passes (passes c.args.checks.now) c.args.bs.now c.loop-b.b-index c.b-item.result c.in_ok-pass.field-0 (each_branch (passes c.args.checks.now) (branches c.args.bs.now)) at
    c.in_ok-pass.ensures yes c.loop-b.invariant

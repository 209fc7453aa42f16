use Rattle.std.proofs.Common.{◌≡◌, [], drop, Some, refl, arith, subst, rules}
use Rattle.std.proofs.lemmas.List.{drop_all}
use Rattle.std.specs.Prelude.{slice_get}
use Rattle.std.proofs.lemmas.Option.{slice_get_read}
use Rattle.tg_accept.specs.Meaning.{resolve}
use Rattle.tg_typing.specs.View as typing
use Rattle.tg_typing.specs.View.{resolved}
use Rattle.tg_infer.specs.Binders.{binders}
use Rattle.tg_infer.specs.Finding.{Finds, branch_meant}
use Rattle.tg_infer.specs.Scopes.{scope_of}
use Rattle.tg_infer.specs.View.{raw_term, seen}
use Rattle.tg_infer.proofs.ResolvingLaws.{StandsAll, StandsBranches, all_next, all_last, branches_next, branches_last}
use Rattle.tg_infer.proofs.resolving.+resolve.Goals as goal

pub resolve_all-loop-t-preserved : goal.resolve_all-loop-t-preserved
resolve_all-loop-t-preserved t c =
    let S = scope_of c.args.scope.now in
    let at : slice_get c.args.ts.now c.loop-t.t-index ≡ Some c.t-item.result = slice_get_read c.args.ts.now _ _ c.t-item.result refl c.loop-t-test.true c.t-item.is in
    let found : Finds c.loop-t.outer c.resolve.new.outer (Some (resolved c.in-Some.u)) (resolve S (binders c.loop-t.outer) (raw_term c.t-item.result)) = search rules in
    all_next S c.args.outer.now c.loop-t.outer c.resolve.new.outer c.args.ts.now c.loop-t.all c.push.new.self c.loop-t.t-index c.t-item.result c.in-Some.u at
    c.loop-t.invariant found c.in_ok-push-in-Some.ensures.ok

pub resolve_all-returns : goal.resolve_all-returns
resolve_all-returns t c =
    let S = scope_of c.args.scope.now in
    let end : drop c.loop-t.t-index c.args.ts.now ≡ [] = drop_all c.loop-t.t-index c.args.ts.now (omega (arith, c.loop-t-test.false)) in
    all_last S c.args.outer.now c.loop-t.outer c.args.ts.now c.loop-t.all
    (subst (StandsAll S c.args.outer.now c.loop-t.outer c.args.ts.now c.loop-t.all) end c.loop-t.invariant)

pub resolve_branches-loop-b-preserved : goal.resolve_branches-loop-b-preserved
resolve_branches-loop-b-preserved t c =
    let S = scope_of c.args.scope.now in
    let at : slice_get c.args.bs.now c.loop-b.b-index ≡ Some c.b-item.result = slice_get_read c.args.bs.now _ _ c.b-item.result refl c.loop-b-test.true c.b-item.is in
    let found : Finds c.loop-b.outer c.resolve_branch.new.outer (Some (typing.seen c.in-Some.b)) (branch_meant S (binders c.loop-b.outer) (seen c.b-item.result)) = search rules in
    branches_next S c.args.outer.now c.loop-b.outer c.resolve_branch.new.outer c.args.bs.now c.loop-b.all c.push.new.self c.loop-b.b-index c.b-item.result c.in-Some.b at
    c.loop-b.invariant found c.in_ok-push-in-Some.ensures.ok

pub resolve_branches-returns : goal.resolve_branches-returns
resolve_branches-returns t c =
    let S = scope_of c.args.scope.now in
    let end : drop c.loop-b.b-index c.args.bs.now ≡ [] = drop_all c.loop-b.b-index c.args.bs.now (omega (arith, c.loop-b-test.false)) in
    branches_last S c.args.outer.now c.loop-b.outer c.args.bs.now c.loop-b.all
    (subst (StandsBranches S c.args.outer.now c.loop-b.outer c.args.bs.now c.loop-b.all) end c.loop-b.invariant)

use Rattle.std.proofs.Common.{sym, subst, arith, ◌<◌, length}
use Rattle.std.proofs.lemmas.Result.{err_from_is_err_and}
use Rattle.tg_types.specs.Types.{ty, types}
use Rattle.tg_types.specs.Walks.{Walk, Walks, occurs}
use Rattle.tg_types.proofs.Steps.{got_agree, got_binds, got_fresh, got_loops, got_differ, got_inside, long_enough, ends_through, stops_at, continues_on}
use Rattle.tg_types.proofs.Arguments.{walks_from, clash_at, occurs_at, walks_done}
use Rattle.tg_types.proofs.unifying.+walk.Goals as goal

pub walk-agree-requires : goal.walk-agree-requires
walk-agree-requires t c = got_fresh _ _ _ _ _ c.in_ok-left.ensures.applied c.in_ok-right.ensures.applied _ _ c.in_ok-left.ensures.whole c.in-Binds.ensures

pub walk-walk_all-requires : goal.walk-walk_all-requires
walk-walk_all-requires t c = (omega (arith, c.decreases, c.if-room-eq0.false), c.in-Some.ensures.0)

pub walk-walk_all-requires-in-Inside : goal.walk-walk_all-requires-in-Inside
walk-walk_all-requires-in-Inside t c =
    (omega (arith, c.decreases, c.if-room-eq0.false), long_enough (ty c.in_ok-left.left) (ty c.in_ok-right.right) c.in-Inside.ts.now c.in-Inside.us.now c.in-Inside.ensures)

pub walk-returns-in-Agree-clause-walked : goal.walk-returns-in-Agree-clause-walked
walk-returns-in-Agree-clause-walked t c = got_agree _ _ _ _ _ c.in_ok-left.ensures.applied c.in_ok-right.ensures.applied c.in-Agree.ensures

pub walk-returns-in_ok-agree-in-Binds-clause-walked : goal.walk-returns-in_ok-agree-in-Binds-clause-walked
walk-returns-in_ok-agree-in-Binds-clause-walked t c =
    got_binds _ _ _ _ _ c.in_ok-left.ensures.applied c.in_ok-right.ensures.applied _ _ _ c.in-Binds.ensures c.in_ok-agree-in-Binds.ensures.ok

pub walk-returns-in_ok-ty-in-Loops-clause-walked : goal.walk-returns-in_ok-ty-in-Loops-clause-walked
walk-returns-in_ok-ty-in-Loops-clause-walked t c =
    subst (λ u. Walk c.args.s.now (ty c.args.a.now) (ty c.args.b.now) (occurs c.in-Loops.var (ty u))) (sym c.in_ok-ty-in-Loops.ensures)
    (got_loops _ _ _ _ _ c.in_ok-left.ensures.applied c.in_ok-right.ensures.applied _ _ c.in-Loops.ensures)

pub walk-returns-in-Inside-clause-walked : goal.walk-returns-in-Inside-clause-walked
walk-returns-in-Inside-clause-walked t c =
    ends_through (Walks c.args.s.now (types c.in-Inside.ts.now) (types c.in-Inside.us.now)) (Walk c.args.s.now (ty c.args.a.now) (ty c.args.b.now))
    (λ r h. got_inside _ _ _ _ _ c.in_ok-left.ensures.applied c.in_ok-right.ensures.applied _ _ r c.in-Inside.ensures h) _ _ c.walk_all-in-Inside.ensures.walked

pub walk-returns-in-Differ-clause-walked : goal.walk-returns-in-Differ-clause-walked
walk-returns-in-Differ-clause-walked t c = got_differ _ _ _ _ _ c.in_ok-left.ensures.applied c.in_ok-right.ensures.applied c.in-Differ.ensures

pub walk_all-returns-in_err-walk-clause-walked : goal.walk_all-returns-in_err-walk-clause-walked
walk_all-returns-in_err-walk-clause-walked t c =
    let p = err_from_is_err_and c.from_residual.result c.from_residual.ensures.1 in
    let i : c.loop-i.i < length c.args.us.now = omega (arith, c.loop-i-test.true, c.requires) in
    rw (p.1, p.2)
    (stops_at (Walk c.loop-i.s (ty c.index-ts-i.result) (ty c.index-us-i.result)) (Walks c.args.s.now (types c.args.ts.now) (types c.args.us.now))
    (λ a b h. c.loop-i.invariant.leads _ (clash_at _ _ _ _ _ _ c.loop-i-test.true i c.index-ts-i.is c.index-us-i.is a b h))
    (λ v u h. c.loop-i.invariant.leads _ (occurs_at _ _ _ _ _ _ c.loop-i-test.true i c.index-ts-i.is c.index-us-i.is v u h))
    c.in_err-walk.field-0.0 c.in_err-walk.ensures.walked)

pub walk_all-loop-i-preserved : goal.walk_all-loop-i-preserved
walk_all-loop-i-preserved t c =
    let i : c.loop-i.i < length c.args.us.now = omega (arith, c.loop-i-test.true, c.requires) in
    record {
      kept = continues_on _ _ _ c.loop-i.invariant.kept c.in_ok-walk.ensures.kept;
      leads = λ r h. c.loop-i.invariant.leads r (walks_from _ _ _ _ _ _ c.loop-i-test.true i c.index-ts-i.is c.index-us-i.is c.in_ok-walk.ensures.walked h);
    }

pub walk_all-returns-clause-walked : goal.walk_all-returns-clause-walked
walk_all-returns-clause-walked t c = c.loop-i.invariant.leads _
    (walks_done _ c.args.ts.now c.args.us.now c.loop-i.i c.loop-i-test.false (omega (arith, c.loop-i-test.false, c.requires)))

use Rattle.std.proofs.Common.{◌≡◌, [], drop, Some, refl, arith, subst, rules}
use Rattle.std.proofs.lemmas.List.{drop_all}
use Rattle.std.specs.Prelude.{slice_get}
use Rattle.std.proofs.lemmas.Option.{slice_get_read}
use Rattle.tg_accept.specs.Standing.{declared_in, value_meant}
use Rattle.tg_infer.specs.View.{raw_term}
use Rattle.tg_term.specs.Values.{value}
use Rattle.tg_standing.proofs.ValueLaws.{Stands, stands_next, stands_last}
use Rattle.tg_standing.proofs.values.+meant.Goals as goal

pub all_meant-loop-t-preserved : goal.all_meant-loop-t-preserved
all_meant-loop-t-preserved _ c =
    let at : slice_get c.args.raw.now c.loop-t.t-index ≡ Some c.t-item.result = slice_get_read c.args.raw.now _ _ c.t-item.result refl c.loop-t-test.true c.t-item.is in
    let meant : Some (value c.in-Some.v) ≡ value_meant (declared_in c.args.th.now) (raw_term c.t-item.result) = search rules in
    stands_next (declared_in c.args.th.now) c.args.raw.now c.loop-t.all c.push.new.self c.loop-t.t-index c.t-item.result c.in-Some.v at c.loop-t.invariant meant
    c.in_ok-push-in-Some.ensures.ok

pub all_meant-returns : goal.all_meant-returns
all_meant-returns _ c =
    let end : drop c.loop-t.t-index c.args.raw.now ≡ [] = drop_all c.loop-t.t-index c.args.raw.now (omega (arith, c.loop-t-test.false)) in
    stands_last (declared_in c.args.th.now) c.args.raw.now c.loop-t.all (subst (Stands (declared_in c.args.th.now) c.args.raw.now c.loop-t.all) end c.loop-t.invariant)

use Rattle.std.proofs.Common.{◌≡◌, [], drop, Some, refl, arith, subst, rules}
use Rattle.std.proofs.lemmas.List.{drop_all}
use Rattle.std.specs.Prelude.{slice_get}
use Rattle.std.proofs.lemmas.Option.{slice_get_read}
use Rattle.tg_accept.specs.Meaning.{type_meant}
use Rattle.tg_types.specs.Types.{ty}
use Rattle.tg_infer.specs.View.{raw_type}
use Rattle.tg_infer.proofs.TypeLaws.{Stands, stands_next, stands_last}
use Rattle.tg_infer.proofs.types.+types.Goals as goal

pub types_of_raw-loop-t-preserved : goal.types_of_raw-loop-t-preserved
types_of_raw-loop-t-preserved t c =
    let at : slice_get c.args.ts.now c.loop-t.t-index ≡ Some c.t-item.result = slice_get_read c.args.ts.now _ _ c.t-item.result refl c.loop-t-test.true c.t-item.is in
    let meant : Some (ty c.in-Some.u) ≡ type_meant c.args.params.now c.args.names.now (raw_type c.t-item.result) = search rules in
    stands_next c.args.params.now c.args.names.now c.args.ts.now c.loop-t.all c.push.new.self c.loop-t.t-index c.t-item.result c.in-Some.u at
    c.loop-t.invariant meant c.in_ok-push-in-Some.ensures.ok

pub types_of_raw-returns : goal.types_of_raw-returns
types_of_raw-returns t c =
    let end : drop c.loop-t.t-index c.args.ts.now ≡ [] = drop_all c.loop-t.t-index c.args.ts.now (omega (arith, c.loop-t-test.false)) in
    stands_last c.args.params.now c.args.names.now c.args.ts.now c.loop-t.all
    (subst (Stands c.args.params.now c.args.names.now c.args.ts.now c.loop-t.all) end c.loop-t.invariant)

use Rattle.std.proofs.Common.{◌≡◌, drop, map, Some, refl, rules}
use Rattle.std.specs.Prelude.{slice_get}
use Rattle.std.proofs.lemmas.Option.{slice_get_read}
use Rattle.tg_accept.specs.Datatypes.{constructor_meant}
use Rattle.tg_declarations.specs.View.{constructor}
use Rattle.tg_infer.specs.View.{raw_constructor}
use Rattle.tg_infer.proofs.EachLaws.{each_next}
use Rattle.tg_infer.proofs.datatypes.constructors.Goals as goal

pub loop-con-preserved : goal.loop-con-preserved
loop-con-preserved c =
    let means = constructor_meant c.args.params.now c.args.names.now in
    let at : slice_get c.args.cons.now c.loop-con.con-index ≡ Some c.con-item.result = slice_get_read c.args.cons.now _ _ c.con-item.result refl c.loop-con-test.true c.con-item.is in
    let found : Some (constructor c.in-Some.con) ≡ means (raw_constructor c.con-item.result) = search rules in
    each_next means raw_constructor constructor c.args.cons.now c.loop-con.all c.push.new.self c.loop-con.con-index c.con-item.result c.in-Some.con at
    c.loop-con.invariant found c.in_ok-push-in-Some.ensures.ok

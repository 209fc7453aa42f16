use Rattle.std.proofs.Common.{◌≡◌, ◌++◌, ◌∷◌, [], drop, map, Some, false, refl, rules}
use Rattle.std.specs.Prelude.{slice_get}
use Rattle.std.proofs.lemmas.Option.{slice_get_read}
use Rattle.tg_accept.specs.Faults.{is_taken}
use Rattle.tg_infer.specs.Words.{values_in}
use Rattle.tg_infer.proofs.WordLaws.{take_next, is_in_constructors}
use Rattle.tg_infer.proofs.words.Words.add_constructors.Goals as goal

pub loop-con-preserved : goal.loop-con-preserved
loop-con-preserved c =
    let at : slice_get c.args.cons.now c.loop-con.con-index ≡ Some c.con-item.result = slice_get_read c.args.cons.now _ _ c.con-item.result refl c.loop-con-test.true c.con-item.is in
    let free : is_taken c.con-item.result.name (values_in c.loop-con.self) ≡ false = search rules in
    let new : c.add.new.self ≡ c.loop-con.self.constructors ++ c.con-item.result.name ∷ [] = search rules in
    take_next c.args.self.now c.loop-con.self (record c.loop-con.self { constructors = c.add.new.self }) c.args.cons.now c.loop-con.con-index c.con-item.result at
    c.loop-con.invariant free new refl refl refl

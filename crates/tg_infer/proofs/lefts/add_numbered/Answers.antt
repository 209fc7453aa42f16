use Rattle.std.proofs.Common.{◌≡◌, ◌+◌, drop, Some, refl, sym, subst, rules}
use Rattle.std.specs.Prelude.{slice_get}
use Rattle.std.proofs.lemmas.Option.{slice_get_read}
use Rattle.tg_infer.proofs.LeftLaws.{IsAdding, next_name}
use Rattle.tg_infer.proofs.lefts.add_numbered.Goals as goal

pub loop-x-preserved : goal.loop-x-preserved
loop-x-preserved c =
    let at : slice_get c.args.xs.now c.loop-x.x-index ≡ Some c.x-item.result = slice_get_read c.args.xs.now _ _ c.x-item.result refl c.loop-x-test.true c.x-item.is in
    let n : c.in_ok-next.next ≡ c.loop-x.next + 1 = search rules in
    subst (IsAdding c.args.first c.args.xs.now c.args.variables.now c.add.new.self (drop (c.loop-x.x-index + 1) c.args.xs.now)) (sym n)
    (next_name c.args.first c.args.xs.now c.args.variables.now c.loop-x.variables c.add.new.self c.loop-x.next c.loop-x.x-index c.x-item.result at
    c.loop-x.invariant c.in_ok-add.ensures)

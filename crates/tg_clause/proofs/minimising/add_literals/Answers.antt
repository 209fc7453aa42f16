use Rattle.std.proofs.Common.{◌≡◌, refl, Some}
use Rattle.std.specs.Prelude.{slice_get}
use Rattle.std.proofs.lemmas.Option.{slice_get_read}
use Rattle.tg_clause.proofs.NumberLaws.{added_next}
use Rattle.tg_clause.proofs.minimising.add_literals.Goals as goal

pub loop-m-preserved : goal.loop-m-preserved
loop-m-preserved c =
    let m = c.m-item.result in
    let at : slice_get c.args.c.now c.loop-m.m-index ≡ Some m = slice_get_read c.args.c.now _ _ m refl c.loop-m-test.true c.m-item.is in
    added_next c.args.table.now.items c.loop-m.table.items _ c.args.c.now c.loop-m.m-index m at c.loop-m.invariant c.in_ok-add_literal.ensures

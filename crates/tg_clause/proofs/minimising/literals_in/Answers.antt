use Rattle.std.proofs.Common.{◌≡◌, refl, Some, subst}
use Rattle.std.specs.Prelude.{slice_get}
use Rattle.std.proofs.lemmas.Option.{slice_get_read}
use Rattle.tg_clause.specs.Numbers.{HasAdded}
use Rattle.tg_clause.proofs.NumberLaws.{known_next}
use Rattle.tg_clause.proofs.minimising.literals_in.Goals as goal

pub loop-c-preserved : goal.loop-c-preserved
loop-c-preserved c =
    let d = c.c-item.result in
    let at : slice_get c.args.cs.now c.loop-c.c-index ≡ Some d = slice_get_read c.args.cs.now _ _ d refl c.loop-c-test.true c.c-item.is in
    known_next c.loop-c.table.items _ c.args.cs.now c.loop-c.c-index d at c.loop-c.invariant
    (subst (λ x. HasAdded c.loop-c.table.items c.add_literals.new.table.items x) c.as_slice.ensures c.in_ok-add_literals.ensures)

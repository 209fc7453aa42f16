use Rattle.std.proofs.Common.{◌≡◌, ◌++◌, ◌∷◌, [], Some, refl, sym, ◌∙◌, ap, subst}
use Rattle.std.specs.Prelude.{slice_get}
use Rattle.std.proofs.lemmas.Option.{slice_get_read}
use Rattle.tg_model.specs.Accepted.{AreDistinct}
use Rattle.tg_standing.proofs.NameLaws.{list_more, list_stays}
use Rattle.tg_standing.proofs.names.add_each.Goals as goal

pub add_next-requires : goal.add_next-requires
add_next-requires c =
    let con = c.con-item.result in
    let at : slice_get c.args.cons.now c.loop-con.con-index ≡ Some con = slice_get_read c.args.cons.now _ _ con refl c.loop-con-test.true c.con-item.is in
    subst (λ l. AreDistinct (l ++ con.name ∷ [])) (sym c.loop-con.invariant) (list_stays c.args.names.now c.args.cons.now c.loop-con.con-index con at c.requires)

pub loop-con-preserved : goal.loop-con-preserved
loop-con-preserved c =
    let con = c.con-item.result in
    let at : slice_get c.args.cons.now c.loop-con.con-index ≡ Some con = slice_get_read c.args.cons.now _ _ con refl c.loop-con-test.true c.con-item.is in
    c.in_ok-add_next.ensures ∙ ap (λ l. l ++ con.name ∷ []) c.loop-con.invariant ∙ list_more c.args.names.now c.args.cons.now c.loop-con.con-index con at

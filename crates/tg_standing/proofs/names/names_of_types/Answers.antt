use Rattle.std.proofs.Common.{◌++◌, ◌∷◌, [], sym, ◌∙◌, ap, subst}
use Rattle.tg_model.specs.Theory.{Datatype}
use Rattle.tg_model.specs.Accepted.{AreDistinct}
use Rattle.tg_declarations.specs.View.{datatype}
use Rattle.tg_standing.proofs.NameLaws.{stay_distinct, one_more, at_number}
use Rattle.tg_standing.proofs.names.names_of_types.Goals as goal

pub add_next-requires : goal.add_next-requires
add_next-requires c =
    let def = c.data_def.result.now in
    let at = at_number c.args.th.now.datatypes c.loop-i.i (datatype def) c.data_def.ensures in
    subst (λ l. AreDistinct (l ++ def.name ∷ [])) (sym c.loop-i.invariant)
    (stay_distinct (λ (x : Datatype). x.name) c.args.th.now.datatypes c.loop-i.i (datatype def) at c.accepted.ensures.accepted.types_differ)

pub loop-i-preserved : goal.loop-i-preserved
loop-i-preserved c =
    let def = c.data_def.result.now in
    let at = at_number c.args.th.now.datatypes c.loop-i.i (datatype def) c.data_def.ensures in
    c.in_ok-add_next.ensures ∙ ap (λ l. l ++ def.name ∷ []) c.loop-i.invariant ∙ one_more (λ (x : Datatype). x.name) c.args.th.now.datatypes c.loop-i.i (datatype def) at

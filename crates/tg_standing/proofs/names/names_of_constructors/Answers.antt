use Rattle.std.proofs.Common.{◌++◌, map, sym, ◌∙◌, ap, subst}
use Rattle.tg_model.specs.Accepted.{AreDistinct}
use Rattle.tg_declarations.specs.View.{datatype}
use Rattle.tg_declarations.specs.declared.definitions.ConDef.{ConDef}
use Rattle.tg_standing.proofs.NameLaws.{at_number, constructors_differ, constructors_stay, datatype_more}
use Rattle.tg_standing.proofs.names.names_of_constructors.Goals as goal

pub add_each-requires : goal.add_each-requires
add_each-requires c =
    let ds = c.args.th.now.datatypes in
    let def = c.data_def.result.now in
    let at = at_number ds c.loop-i.i (datatype def) c.data_def.ensures in
    let stay : AreDistinct (c.loop-i.names ++ map (λ (con : ConDef). con.name) def.cons) =
    subst (λ l. AreDistinct (l ++ map (λ (con : ConDef). con.name) def.cons)) (sym c.loop-i.invariant)
    (constructors_stay ds c.loop-i.i def at (constructors_differ c.args.th.now c.accepted.ensures.accepted)) in
    subst (λ cs. AreDistinct (c.loop-i.names ++ map (λ (con : ConDef). con.name) cs)) (sym c.as_slice.ensures) stay

pub loop-i-preserved : goal.loop-i-preserved
loop-i-preserved c =
    let ds = c.args.th.now.datatypes in
    let def = c.data_def.result.now in
    let at = at_number ds c.loop-i.i (datatype def) c.data_def.ensures in
    c.in_ok-add_each.ensures ∙ (λ i. c.loop-i.invariant i ++ map (λ (con : ConDef). con.name) (c.as_slice.ensures i)) ∙ datatype_more ds c.loop-i.i def at

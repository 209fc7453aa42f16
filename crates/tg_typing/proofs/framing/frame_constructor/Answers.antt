use Rattle.std.proofs.Common.{ℕ, ◌≡◌, length, Bor, Some, refl, sym, ◌∙◌, ap, subst}
use Rattle.std.specs.Prelude.{option_map}
use Rattle.tg_model.specs.Theory.{constructor_at}
use Rattle.tg_types.specs.Types.{types}
use Rattle.tg_shared_types.specs.Growth.{AreDeclared, PlantsAll}
use Rattle.tg_declarations.specs.View.{owned}
use Rattle.tg_declarations.specs.declared.definitions.ConDef.{ConDef}
use Rattle.tg_typing.specs.Contexts.{theory_in}
use Rattle.tg_typing.proofs.Scoped.{below_more}
use Rattle.tg_typing.proofs.FrameLaws.{con_framed, if_ok}
use Rattle.tg_typing.proofs.framing.frame_constructor.Goals as goal

pub plant_all-requires-clause-declared : goal.plant_all-requires-clause-declared
plant_all-requires-clause-declared c =
    let is : constructor_at (theory_in c.args.context.now) c.args.c ≡ Some (owned c.in-Some.d c.in-Some.con.now) =
    sym c.con_def.ensures ∙ ap (option_map (λ (found : ℕ × Bor ConDef). owned found.0 found.1.now)) c.in-Some.is in
    subst (λ x. AreDeclared (types x)) (sym c.as_slice-2.ensures)
    (c.requires.closed.constructors c.args.c (owned c.in-Some.d c.in-Some.con.now) is)

pub push-requires : goal.push-requires
push-requires c =
    below_more (length c.open_nodes.new.table) (length c.plant_all.new.table) c.in_ok-us.us c.in_ok-es.ensures.grows.longer c.in_ok-us.ensures.0

pub returns : goal.returns
returns c =
    let is : constructor_at (theory_in c.args.context.now) c.args.c ≡ Some (owned c.in-Some.d c.in-Some.con.now) =
    sym c.con_def.ensures ∙ ap (option_map (λ (found : ℕ × Bor ConDef). owned found.0 found.1.now)) c.in-Some.is in
    let plants : PlantsAll c.open_nodes.new.table c.in_ok-us.us (types c.in-Some.con.now.args) c.plant_all.new.table c.in_ok-es.es =
    subst (λ x. PlantsAll c.open_nodes.new.table x (types c.in-Some.con.now.args) c.plant_all.new.table c.in_ok-es.es) c.as_slice.ensures
    (subst (λ x. PlantsAll c.open_nodes.new.table c.as_slice.result.now (types x) c.plant_all.new.table c.in_ok-es.es) c.as_slice-2.ensures
    c.in_ok-es.ensures) in
    if_ok c.close.result (λ found closes.
    con_framed (theory_in c.args.context.now) c.args.table.now c.open_nodes.new.table c.plant_all.new.table c.push.new.self c.close.new.table c.in_ok-us.us
    c.in_ok-es.es c.in-Some-parameters.count c.args.c c.args.expected c.in_ok-top.top (owned c.in-Some.d c.in-Some.con.now) c.in-Some.con.now.args found is refl
    (sym c.parameters.ensures ∙ c.in-Some-parameters.is) c.in_ok-us.ensures plants c.in_ok-top.ensures.table c.in_ok-top.ensures.ok
    c.in_ok-top.ensures.place c.requires.expected closes)
    c.close.ensures

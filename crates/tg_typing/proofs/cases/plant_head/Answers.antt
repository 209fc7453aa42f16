use Rattle.std.proofs.Common.{ℕ, ◌≡◌, ◌++◌, [], ◌∷◌, Bor, Some, refl, sym, ◌∙◌, ap, subst}
use Rattle.std.specs.Prelude.{option_map}
use Rattle.tg_model.specs.Theory.{constructor_at}
use Rattle.tg_types.specs.Types.{types}
use Rattle.tg_shared_types.specs.Growth.{AreDeclared, PlantsAll}
use Rattle.tg_declarations.specs.View.{owned}
use Rattle.tg_declarations.specs.declared.definitions.ConDef.{ConDef}
use Rattle.tg_typing.specs.Contexts.{theory_in}
use Rattle.tg_typing.specs.Cases.{HeadNodes}
use Rattle.tg_typing.specs.View.{head}
use Rattle.tg_typing.proofs.CaseNodes.{successor_nodes, con_nodes}
use Rattle.tg_typing.proofs.cases.plant_head.Goals as goal

pub plant_all-requires-clause-declared : goal.plant_all-requires-clause-declared
plant_all-requires-clause-declared c =
    let is : constructor_at (theory_in c.args.context.now) c.in-Con.c ≡ Some (owned c.in-Some.d c.in-Some.con.now) =
    sym c.con_def.ensures ∙ ap (option_map (λ (found : ℕ × Bor ConDef). owned found.0 found.1.now)) c.in-Some.is in
    subst (λ x. AreDeclared (types x)) (sym c.as_slice.ensures)
    (c.requires.closed.constructors c.in-Con.c (owned c.in-Some.d c.in-Some.con.now) is)

pub returns-in_ok-push-in-Successor : goal.returns-in_ok-push-in-Successor
returns-in_ok-push-in-Successor c =
    subst (λ x. HeadNodes (theory_in c.args.context.now) c.args.table.now c.push.new.self c.args.n c.args.us.now (head x) c.push-in-Successor.new.self)
    (sym c.in-Successor.is)
    (successor_nodes (theory_in c.args.context.now) c.args.n c.args.table.now c.push.new.self c.args.us.now c.push-in-Successor.new.self
    c.in_ok-k-in-Successor.k c.if-n-ne0.false c.in_ok-k-in-Successor.ensures.table c.in_ok-k-in-Successor.ensures.ok c.in_ok-k-in-Successor.ensures.place
    (c.in_ok-push-in-Successor.ensures.ok ∙ ap (λ ks. ks ++ c.in_ok-k-in-Successor.k ∷ []) c.new-ks.ensures))

pub returns-in_ok-ks-in-Con : goal.returns-in_ok-ks-in-Con
returns-in_ok-ks-in-Con c =
    let is : constructor_at (theory_in c.args.context.now) c.in-Con.c ≡ Some (owned c.in-Some.d c.in-Some.con.now) =
    sym c.con_def.ensures ∙ ap (option_map (λ (found : ℕ × Bor ConDef). owned found.0 found.1.now)) c.in-Some.is in
    subst (λ x. HeadNodes (theory_in c.args.context.now) c.args.table.now c.plant_all.new.table c.args.n c.args.us.now (head x) c.in_ok-ks-in-Con.ks)
    (sym c.in-Con.is)
    (con_nodes (theory_in c.args.context.now) c.args.n c.in-Con.c c.args.table.now c.plant_all.new.table c.args.us.now c.in_ok-ks-in-Con.ks
    (owned c.in-Some.d c.in-Some.con.now) c.in-Some.con.now.args is refl c.if-d-n.false
    (subst (λ x. PlantsAll c.args.table.now c.args.us.now (types x) c.plant_all.new.table c.in_ok-ks-in-Con.ks) c.as_slice.ensures c.in_ok-ks-in-Con.ensures))

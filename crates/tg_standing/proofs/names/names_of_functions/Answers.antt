use Rattle.std.proofs.Common.{◌++◌, ◌∷◌, [], sym, ◌∙◌, ap, subst}
use Rattle.tg_model.specs.Theory.{Function}
use Rattle.tg_model.specs.Accepted.{AreDistinct}
use Rattle.tg_declarations.specs.View.{function}
use Rattle.tg_standing.proofs.NameLaws.{stay_distinct, one_more, at_number, functions_differ}
use Rattle.tg_standing.proofs.names.names_of_functions.Goals as goal

pub add_next-requires : goal.add_next-requires
add_next-requires c =
    let def = c.fun.result.now in
    let at = at_number c.args.th.now.functions c.loop-i.i (function def) c.fun.ensures in
    subst (λ l. AreDistinct (l ++ def.name ∷ [])) (sym c.loop-i.invariant)
    (stay_distinct (λ (x : Function). x.name) c.args.th.now.functions c.loop-i.i (function def) at (functions_differ c.args.th.now c.accepted.ensures.accepted))

pub loop-i-preserved : goal.loop-i-preserved
loop-i-preserved c =
    let def = c.fun.result.now in
    let at = at_number c.args.th.now.functions c.loop-i.i (function def) c.fun.ensures in
    c.in_ok-add_next.ensures ∙ ap (λ l. l ++ def.name ∷ []) c.loop-i.invariant ∙ one_more (λ (x : Function). x.name) c.args.th.now.functions c.loop-i.i (function def) at

use Rattle.std.proofs.Common.{◌≡◌, ◌∙◌, Some, sym, ap, map}
use Rattle.tg_accept.specs.Declared.{Declared}
use Rattle.tg_model.specs.Types.{applied}
use Rattle.tg_model.specs.Theory.{instance, numbered, constructors_from, constructor_at}
use Rattle.tg_declarations.specs.View.{owned}
use Rattle.tg_types.specs.Types.{ty, types, ty-App}
use Rattle.tg_calculus.specs.Chains.{arguments_at}
use Rattle.tg_kernel.proofs.ArgumentLaws.{arguments_there}
use Rattle.tg_kernel.proofs.constructors.arguments_at.Goals as goal

pub returns-in_ok-types-in-Some : goal.returns-in_ok-types-in-Some
returns-in_ok-types-in-Some c =
    let seen : ty c.args.at.now ≡ applied c.in-App.field-0 (types c.in-App.us) = ap ty c.in-App.is ∙ ty-App c.in-App.field-0 c.in-App.us in
    let found : Some (owned c.in-Some.field-0-0 c.in-Some.def.now) ≡ constructor_at c.args.th.now c.args.c =
    c.in-Some.ensures ∙ ap (λ (D : Declared). numbered (constructors_from 1 D.datatypes) c.args.c) c.declarations.ensures.whole in
    arguments_there c.args.th.now c.args.c c.in-App.field-0 c.in-App.us c.in-Some.field-0-0 c.in-Some.def.now _ found
    (c.in_ok-types-in-Some.ensures ∙ (λ i. map (instance (map ty (c.as_slice.ensures i))) (map ty (c.as_slice-in-Some.ensures i))))
    ∙ ap (arguments_at c.args.th.now c.args.c) (sym seen)

use Rattle.std.proofs.Common.{◌≡◌, ◌∙◌, map, sym, ap, subst}
use Rattle.std.specs.Prelude.{IfOk}
use Rattle.tg_model.specs.Types.{applied, tys}
use Rattle.tg_model.specs.Value.{made}
use Rattle.tg_term.specs.Values.{value, values, value-Con}
use Rattle.tg_types.specs.Types.{ty, ty-App}
use Rattle.tg_standing.specs.TypesOfValues.{has_type, is_made}
use Rattle.tg_standing.proofs.ValueTypes.{made_at, other_lengths}
use Rattle.tg_standing.proofs.types_of_values.+typed.Goals as goal

pub are_typed-returns-then-vs-ts : goal.are_typed-returns-then-vs-ts
are_typed-returns-then-vs-ts _ c = other_lengths c.args.declared.now.datatypes c.args.vs.now c.args.us.now c.args.ts.now c.if-vs-ts.true

pub is_typed-returns-in-Con-App : goal.is_typed-returns-in-Con-App
is_typed-returns-in-Con-App _ c =
    let ds = c.args.declared.now.datatypes in
    let b = c.in-Con-App in
    let of_value : value c.args.v.now ≡ made b.c (values b.vs) = ap value b.is-0 ∙ value-Con b.c b.vs in
    let of_type : ty c.args.t.now ≡ applied b.d (tys (map ty b.us)) = ap ty b.is-1 ∙ ty-App b.d b.us in
    subst (λ r. IfOk c.is_made.result (λ e. e ≡ r))
    ((λ i. is_made ds b.c (values (c.as_slice.ensures i)) b.d (map ty (c.as_slice-in-Con-App.ensures i))) ∙ made_at ds b.c b.vs b.d b.us
    ∙ (λ i. has_type ds (sym of_value i) (sym of_type i)))
    c.is_made.ensures

use Rattle.std.proofs.Common.{◌≡◌, ◌-◌, None, map, sym, ◌∙◌, ap, arith}
use Rattle.std.specs.Prelude.{slice_get}
use Rattle.tg_model.specs.Types.{parameter, applied, tys}
use Rattle.tg_model.specs.Typing.{least_at, least_below}
use Rattle.tg_model.proofs.Places.{none_past}
use Rattle.tg_types.specs.Types.{ty, ty-Param, ty-App}
use Rattle.tg_term.specs.Values.{value}
use Rattle.tg_declarations.specs.View.{constructor}
use Rattle.tg_theory.specs.Bases.{first_base}
use Rattle.tg_theory.proofs.LeastLaws.{parameter_there, parameter_missing, least_of_data, undeclared, without_base, with_base, place_of_base, numbers_reach}
use Rattle.tg_theory.proofs.least.+least.Goals as goal

pub least_at-returns-in-None : goal.least_at-returns-in-None
least_at-returns-in-None _ c =
    let seen : ty c.args.t.now ≡ parameter c.in-Param.n = ap ty c.in-Param.is ∙ ty-Param c.in-Param.n in
    parameter_missing (least_below c.args.declared.now.datatypes c.args.below) c.args.params.now c.in-Param.n c.in-None.ensures
    ∙ ap (least_at (least_below c.args.declared.now.datatypes c.args.below) (map value c.args.params.now)) (sym seen)

pub least_data-returns-in_default : goal.least_data-returns-in_default
least_data-returns-in_default _ c =
    undeclared c.args.declared.now.datatypes c.args.d (map value c.args.args.now) c.args.below (c.args.d - 1) (omega (arith, c.if-d-eq0.false)) (omega (arith, c.if-below-d.false))
    c.in_default.ensures

pub least_data-returns-in_default-first_base : goal.least_data-returns-in_default-first_base
least_data-returns-in_default-first_base _ c =
    let none : None ≡ first_base c.args.d (map constructor c.in-Some.def.now.cons) = c.in_default-first_base.ensures ∙ ap (λ l. first_base c.args.d (map constructor l)) c.as_slice.ensures in
    without_base c.args.declared.now.datatypes c.args.d (map value c.args.args.now) c.args.below (c.args.d - 1) (omega (arith, c.if-d-eq0.false)) (omega (arith, c.if-below-d.false))
    c.in-Some.def.now c.in-Some.ensures none

pub least_at-returns-in_ok-copy-in-Some : goal.least_at-returns-in_ok-copy-in-Some
least_at-returns-in_ok-copy-in-Some _ c =
    let seen : ty c.args.t.now ≡ parameter c.in-Param.n = ap ty c.in-Param.is ∙ ty-Param c.in-Param.n in
    parameter_there (least_below c.args.declared.now.datatypes c.args.below) c.args.params.now c.in-Param.n c.in-Some.v.now c.in_ok-copy-in-Some.copy c.in-Some.ensures
    c.in_ok-copy-in-Some.ensures
    ∙ ap (least_at (least_below c.args.declared.now.datatypes c.args.below) (map value c.args.params.now)) (sym seen)

pub least_at-returns-in_ok-v-in-App : goal.least_at-returns-in_ok-v-in-App
least_at-returns-in_ok-v-in-App _ c =
    let seen : ty c.args.t.now ≡ applied c.in-App.d (tys (map ty c.in-App.ts)) = ap ty c.in-App.is ∙ ty-App c.in-App.d c.in-App.ts in
    let L = least_below c.args.declared.now.datatypes c.args.below in
    least_of_data c.args.declared.now.datatypes c.args.below c.in-App.d (map value c.args.params.now) c.in-App.ts c.in_ok-args-in-App.args c.in_ok-v-in-App.v
    (c.in_ok-args-in-App.ensures ∙ ap (λ us. map (least_at L (map value c.args.params.now)) (map ty us)) c.as_slice.ensures)
    (c.in_ok-v-in-App.ensures ∙ ap (λ vs. L c.in-App.d (map value vs)) c.as_slice-in-App.ensures)
    ∙ ap (least_at L (map value c.args.params.now)) (sym seen)

pub least_data-returns-in_default-item_at : goal.least_data-returns-in_default-item_at
least_data-returns-in_default-item_at _ c =
    let found = c.in-Some-first_base.ensures ∙ ap (λ l. first_base c.args.d (map constructor l)) c.as_slice.ensures in
    let inside = place_of_base c.args.d c.in-Some.def.now.cons c.in-Some-first_base.at found in
    let past = none_past c.in-Some.def.now.cons c.in-Some-first_base.at (sym (c.in_default-item_at.ensures ∙ ap (λ l. slice_get l c.in-Some-first_base.at) c.as_slice-2.ensures)) in
    absurd (omega (arith, inside, past))

pub least_data-returns-in_default-item_at-2 : goal.least_data-returns-in_default-item_at-2
least_data-returns-in_default-item_at-2 _ c =
    let found = c.in-Some-first_base.ensures ∙ ap (λ l. first_base c.args.d (map constructor l)) c.as_slice.ensures in
    let inside = place_of_base c.args.d c.in-Some.def.now.cons c.in-Some-first_base.at found in
    let past = numbers_reach c.args.declared.now.datatypes c.args.d c.in-Some-first_base.at c.in-Some.def.now c.in-Some.ensures
    (c.in_default-item_at-2.ensures ∙ ap (λ l. slice_get l c.in-Some-first_base.at) c.constructors.ensures) in
    absurd (omega (arith, inside, past))

pub least_data-returns : goal.least_data-returns
least_data-returns _ c =
    let found = c.in-Some-first_base.ensures ∙ ap (λ l. first_base c.args.d (map constructor l)) c.as_slice.ensures in
    let con = sym (c.in-Some-item_at.ensures ∙ ap (λ l. slice_get l c.in-Some-first_base.at) c.as_slice-2.ensures) in
    let number = sym (c.in-Some-item_at-2.ensures ∙ ap (λ l. slice_get l c.in-Some-first_base.at) c.constructors.ensures) in
    let L = least_at (least_below c.args.declared.now.datatypes (c.args.d - 1)) (map value c.args.args.now) in
    with_base c.args.declared.now.datatypes c.args.d (map value c.args.args.now) c.args.below (c.args.d - 1) (omega (arith, c.if-d-eq0.false)) (omega (arith, c.if-below-d.false))
    c.in-Some.def.now c.in-Some-first_base.at c.in-Some-item_at-2.number.now c.in-Some-item_at.con.now c.in_ok-vs.vs c.in-Some.ensures found con number
    (c.in_ok-vs.ensures ∙ ap (λ us. map L (map ty us)) c.as_slice-3.ensures)

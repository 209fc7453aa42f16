use Rattle.std.proofs.Common.{◌∙◌, ap, refl, ◌-◌, true, [], ◌∷◌, length, map}
use Rattle.tg_model.specs.Theory.{numbered}
use Rattle.tg_model.specs.Types.{bool, parameter, meta, tys}
use Rattle.tg_types.specs.Types.{ty, ty-Nat, ty-Bool, ty-Param, ty-Meta, ty-App}
use Rattle.tg_accept.specs.Faults.{are_cases_shaped}
use Rattle.tg_theory.specs.Matched.{recursive_of}
use Rattle.tg_theory.proofs.Cases.{shape_natural, shape_data, shape_no_data, shape_plain}
use Rattle.tg_theory.proofs.shapes.is_recursion_shaped.Goals as goal

pub returns-in-Nat : goal.returns-in-Nat
returns-in-Nat c = λ n.
    c.are_natural_cases.ensures
    ∙ ap (λ m. are_cases_shaped c.args.number c.args.place (m - 1) c.args.cases.now ([] ∷ (true ∷ []) ∷ [])) c.len.ensures
    ∙ shape_natural c.args.declared.now c.args.def.now c.args.number c.args.place c.args.cases.now n c.in-Some.t.now
    (c.in-Some.ensures ∙ ap (λ l. numbered l c.args.place) c.as_slice.ensures) (ap ty c.in-Nat.is ∙ ty-Nat)

pub returns-in-Some-data_def : goal.returns-in-Some-data_def
returns-in-Some-data_def c = λ n.
    c.are_cases_shaped.ensures
    ∙ ap (λ m. are_cases_shaped c.args.number c.args.place (m - 1) c.args.cases.now (map (recursive_of c.in-App.d) c.as_slice-in-Some-data_def.result.now)) c.len.ensures
    ∙ ap (λ l. are_cases_shaped c.args.number c.args.place (length c.args.def.now.args - 1) c.args.cases.now (map (recursive_of c.in-App.d) l)) c.as_slice-in-Some-data_def.ensures
    ∙ shape_data c.args.declared.now c.args.def.now c.args.number c.args.place c.args.cases.now n c.in-Some.t.now
    (c.in-Some.ensures ∙ ap (λ l. numbered l c.args.place) c.as_slice.ensures)
    c.in-App.d (tys (map ty c.in-App.field-1)) c.in-Some-data_def.data.now (ap ty c.in-App.is ∙ ty-App c.in-App.d c.in-App.field-1) c.in-Some-data_def.ensures

pub returns-in-None : goal.returns-in-None
returns-in-None c = λ n.
    shape_no_data c.args.declared.now c.args.def.now c.args.number c.args.place c.args.cases.now n c.in-Some.t.now
    (c.in-Some.ensures ∙ ap (λ l. numbered l c.args.place) c.as_slice.ensures)
    c.in-App.d (tys (map ty c.in-App.field-1)) (ap ty c.in-App.is ∙ ty-App c.in-App.d c.in-App.field-1) c.in-None.ensures

pub returns-in-Bool : goal.returns-in-Bool
returns-in-Bool c = λ n.
    shape_plain c.args.declared.now c.args.def.now c.args.number c.args.place c.args.cases.now n c.in-Some.t.now
    (c.in-Some.ensures ∙ ap (λ l. numbered l c.args.place) c.as_slice.ensures) bool (ap ty c.in-Bool.is ∙ ty-Bool) refl

pub returns-in-Param : goal.returns-in-Param
returns-in-Param c = λ n.
    shape_plain c.args.declared.now c.args.def.now c.args.number c.args.place c.args.cases.now n c.in-Some.t.now
    (c.in-Some.ensures ∙ ap (λ l. numbered l c.args.place) c.as_slice.ensures) (parameter c.in-Param.field-0) (ap ty c.in-Param.is ∙ ty-Param c.in-Param.field-0) refl

pub returns-in-Meta : goal.returns-in-Meta
returns-in-Meta c = λ n.
    shape_plain c.args.declared.now c.args.def.now c.args.number c.args.place c.args.cases.now n c.in-Some.t.now
    (c.in-Some.ensures ∙ ap (λ l. numbered l c.args.place) c.as_slice.ensures) (meta c.in-Meta.field-0) (ap ty c.in-Meta.is ∙ ty-Meta c.in-Meta.field-0) refl

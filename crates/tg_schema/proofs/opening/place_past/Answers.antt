use Rattle.std.proofs.Common.{rules, ◌≡◌, ◌≤◌, ◌∙◌, ◌-◌, ◌+◌, subst, Some, None, length}
use Rattle.tg_declarations.specs.View.{datatype}
use Rattle.tg_model.specs.Theory.{numbered}
use Rattle.tg_schema.proofs.OpeningLaws.{IsLeft, left_next, left_past, left_short}
use Rattle.tg_schema.proofs.opening.place_past.Goals as goal

pub returns-in_default : goal.returns-in_default
returns-in_default c =
    let e : None ≡ numbered c.args.declared.now.datatypes c.loop-number.number = search rules in
    left_past _ _ _ _ _ c.loop-number.invariant c.loop-number-test.true e

pub returns-in_err-place-2 : goal.returns-in_err-place-2
returns-in_err-place-2 c =
    let e : Some (datatype c.in-Some.def.now) ≡ numbered c.args.declared.now.datatypes c.loop-number.number = search rules in
    let h : ¬ (length c.in-Some.def.now.cons ≤ c.loop-number.place) = search rules in
    let n : c.from_residual-in_err-place-2.result ≡ None = search rules in
    n ∙ left_short _ _ _ _ _ _ c.loop-number.invariant c.loop-number-test.true e h

pub loop-number-preserved : goal.loop-number-preserved
loop-number-preserved c =
    let e : Some (datatype c.in-Some.def.now) ≡ numbered c.args.declared.now.datatypes c.loop-number.number = search rules in
    let h : length c.in-Some.def.now.cons ≤ c.loop-number.place = search rules in
    let n : c.loop-number.place - length c.in-Some.def.now.cons ≡ c.in_ok-place-2.place = search rules in
    subst (λ k. IsLeft c.args.declared.now.datatypes c.args.d c.args.c (c.loop-number.number + 1) k) n (left_next _ _ _ _ _ _ c.loop-number.invariant c.loop-number-test.true e h)

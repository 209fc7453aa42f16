use Rattle.std.proofs.Common.{◌≡◌, [], Some, ap, sym, ◌∙◌, subst, reverse, option_map, IfOk}
use Rattle.tg_accept.specs.Declared.{theory}
use Rattle.tg_term.specs.Operators.{operator}
use Rattle.tg_eval.specs.Evaluating.{outcome}
use Rattle.tg_eval.specs.Limited.{limited}
use Rattle.tg_eval.proofs.StepLaws.{choice_short, chosen_over, chosen_true, chosen_wrong, case_no_branch, case_other, case_taken, op_others, operated_wrong}
use Rattle.tg_eval.proofs.+value.Goals as goal

pub evaluating::chosen-returns-then-ts-ne3-clause-value : goal.evaluating::chosen-returns-then-ts-ne3-clause-value
evaluating::chosen-returns-then-ts-ne3-clause-value t c =
    ap (λ w. Some (w, c.args.run.now.left)) c.wrong.ensures
    ∙ choice_short (theory [] c.args.given.now.declared.now) c.args.given.now.answer.now (limited (theory [] c.args.given.now.declared.now) c.args.given.now.answer.now c.args.levels)
    c.args.run.now.left c.args.env.now (reverse c.args.loc.now.items) c.args.ts.now c.if-ts-ne3.true

pub evaluating::chosen-returns-in_default-clause-value : goal.evaluating::chosen-returns-in_default-clause-value
evaluating::chosen-returns-in_default-clause-value t c =
    chosen_over (theory [] c.args.given.now.declared.now) c.args.given.now.answer.now (limited (theory [] c.args.given.now.declared.now) c.args.given.now.answer.now c.args.levels)
    c.args.run.now.left c.args.env.now (reverse c.args.loc.now.items)
    c.index-ts-0.result c.in_ok-v.field-0 c.value_of.new.run.left c.in_ok-v.ensures.value c.args.ts.now c.if-ts-ne3.false c.index-ts-0.is c.in_default.is

pub evaluating::chosen-returns-in-Some-true-clause-value : goal.evaluating::chosen-returns-in-Some-true-clause-value
evaluating::chosen-returns-in-Some-true-clause-value t c =
    let th = theory [] c.args.given.now.declared.now in
    let ev = limited th c.args.given.now.answer.now c.args.levels in
    subst (λ x. IfOk c.value_of-in-Some-true.result (λ r. outcome r c.value_of-in-Some-true.new.run.left ≡ x))
    (ap (λ l. ev c.value_of.new.run.left c.args.env.now (reverse l) c.index-ts-1.result) c.in_ok-v.ensures.kept
    ∙ chosen_true th c.args.given.now.answer.now ev c.args.run.now.left c.args.env.now (reverse c.args.loc.now.items)
    c.index-ts-0.result c.in_ok-v.field-0 c.value_of.new.run.left c.in_ok-v.ensures.value c.args.ts.now c.index-ts-1.result c.in-Some.v
    c.if-ts-ne3.false c.index-ts-0.is c.index-ts-1.is c.in-Some.is (ap Some (sym c.in-Some-true.field-0-test) ∙ c.in-Some-true.ensures))
    c.value_of-in-Some-true.ensures.value

pub evaluating::chosen-returns-clause-value : goal.evaluating::chosen-returns-clause-value
evaluating::chosen-returns-clause-value t c =
    ap (λ w. Some (w, c.value_of.new.run.left)) c.wrong-in-None.ensures
    ∙ chosen_wrong (theory [] c.args.given.now.declared.now) c.args.given.now.answer.now (limited (theory [] c.args.given.now.declared.now) c.args.given.now.answer.now c.args.levels)
    c.args.run.now.left c.args.env.now (reverse c.args.loc.now.items)
    c.index-ts-0.result c.in_ok-v.field-0 c.value_of.new.run.left c.in_ok-v.ensures.value c.args.ts.now c.in-Some.v c.if-ts-ne3.false c.index-ts-0.is c.in-Some.is c.in-None.ensures

pub evaluating::opened-returns-in_default-at-clause-value : goal.evaluating::opened-returns-in_default-at-clause-value
evaluating::opened-returns-in_default-at-clause-value t c =
    ap (λ w. Some (w, c.value_of.new.run.left)) c.wrong-in_default-at.ensures
    ∙ case_no_branch (theory [] c.args.given.now.declared.now) c.args.given.now.answer.now (limited (theory [] c.args.given.now.declared.now) c.args.given.now.answer.now c.args.levels)
    c.args.run.now.left c.args.env.now (reverse c.args.loc.now.items) c.args.d c.args.t.now c.in_ok-v.field-0 c.in-Some.v c.value_of.new.run.left c.in_ok-k.field-0 c.in-Some-2.k
    c.args.bs.now c.in_ok-v.ensures.value c.in-Some.is c.in_ok-k.ensures c.in-Some-2.is c.in_default-at.ensures

pub evaluating::opened-returns-then-branch-part_count-clause-value : goal.evaluating::opened-returns-then-branch-part_count-clause-value
evaluating::opened-returns-then-branch-part_count-clause-value t c =
    ap (λ w. Some (w, c.value_of.new.run.left)) c.wrong-then-branch-part_count.ensures
    ∙ case_other (theory [] c.args.given.now.declared.now) c.args.given.now.answer.now (limited (theory [] c.args.given.now.declared.now) c.args.given.now.answer.now c.args.levels)
    c.args.run.now.left c.args.env.now (reverse c.args.loc.now.items) c.args.d c.args.t.now c.in_ok-v.field-0 c.in-Some.v c.value_of.new.run.left c.in_ok-k.field-0 c.in-Some-2.k
    c.args.bs.now c.in-Some-at.branch.now c.in_ok-v.ensures.value c.in-Some.is c.in_ok-k.ensures c.in-Some-2.is c.in-Some-at.ensures
    (λ e. c.if-branch-part_count.true (e ∙ sym c.part_count.ensures))

pub evaluating::opened-returns-clause-value : goal.evaluating::opened-returns-clause-value
evaluating::opened-returns-clause-value t c =
    c.in_ok-value.ensures.value
    ∙ case_taken (theory [] c.args.given.now.declared.now) c.args.given.now.answer.now (limited (theory [] c.args.given.now.declared.now) c.args.given.now.answer.now c.args.levels)
    c.args.run.now.left c.args.env.now (reverse c.args.loc.now.items) c.args.d c.args.t.now c.in_ok-v.field-0 c.in-Some.v c.value_of.new.run.left c.in_ok-k.field-0 c.in-Some-2.k
    c.args.bs.now c.in-Some-at.branch.now c.value_of.new.loc.items c.add_parts.new.out.items (ap reverse (sym c.in_ok-v.ensures.kept)) c.in_ok-add_parts.ensures
    c.in_ok-v.ensures.value c.in-Some.is c.in_ok-k.ensures c.in-Some-2.is c.in-Some-at.ensures (c.if-branch-part_count.false ∙ c.part_count.ensures)

pub operations::operated-returns-then-ts-ne2-clause-value : goal.operations::operated-returns-then-ts-ne2-clause-value
operations::operated-returns-then-ts-ne2-clause-value t c =
    let th = theory [] c.args.given.now.declared.now in
    let ev = limited th c.args.given.now.answer.now c.args.levels in
    subst (λ x. IfOk c.operated_on_others.result (λ r. outcome r c.operated_on_others.new.run.left ≡ x))
    (op_others th c.args.given.now.answer.now ev c.args.run.now.left c.args.env.now (reverse c.args.loc.now.items) (operator c.args.o) c.args.ts.now c.if-ts-ne2.true)
    c.operated_on_others.ensures.value

pub operations::operated_on_others-returns-clause-value : goal.operations::operated_on_others-returns-clause-value
operations::operated_on_others-returns-clause-value t c =
    ap (λ w. Some (w, c.values_of.new.run.left)) c.wrong.ensures
    ∙ operated_wrong (theory [] c.args.given.now.declared.now) c.args.given.now.answer.now (limited (theory [] c.args.given.now.declared.now) c.args.given.now.answer.now c.args.levels)
    c.args.run.now.left c.args.env.now (reverse c.args.loc.now.items) (operator c.args.o) c.args.ts.now
    (option_map (λ vs. vs.items) c.in_ok-_args.field-0) c.in-Some._args.items c.values_of.new.run.left c.requires.one c.requires.two
    c.in_ok-_args.ensures.value (ap (option_map (λ vs. vs.items)) c.in-Some.is)

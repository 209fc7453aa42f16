use Rattle.std.proofs.Common.{◌≡◌, map, length, ap, sym, ◌∙◌, option_map}
use Rattle.tg_model.specs.Filling.{fill}
use Rattle.tg_model.specs.Tree.{trees}
use Rattle.tg_term.specs.Matching.{held, unknown, collected_all, all_of}
use Rattle.tg_term.specs.Values.{value, values}
use Rattle.tg_term.proofs.MatchLaws.{no_match, no_fill, match, noticed_is, equal_values, other_values}
use Rattle.tg_term.proofs.filling.matches.Goals as goal

pub returns-in_default : goal.returns-in_default
returns-in_default c = λ each.
    let noticed : all_of (map held c.as_slice-2.result.now) ≡ all_of (collected_all (trees c.args.p.now.terms) (values c.args.inputs.now) (unknown (length c.args.p.now.vars))) =
    noticed_is _ _ _ _ _ _ _ _ _ _ c.as_slice.ensures c.collect_all.ensures c.as_mut_slice.ensures.value c.in_ok-slots.ensures c.len.ensures c.as_mut_slice.ensures.len c.as_slice-2.ensures.value in
    no_match _ _ _ each (sym noticed ∙ sym c.in_ok-found.ensures ∙ ap (option_map (λ vs. map value vs.items)) c.in_default.is)

pub returns-then-same_values : goal.returns-then-same_values
returns-then-same_values c = λ each.
    let noticed : all_of (map held c.as_slice-2.result.now) ≡ all_of (collected_all (trees c.args.p.now.terms) (values c.args.inputs.now) (unknown (length c.args.p.now.vars))) =
    noticed_is _ _ _ _ _ _ _ _ _ _ c.as_slice.ensures c.collect_all.ensures c.as_mut_slice.ensures.value c.in_ok-slots.ensures c.len.ensures c.as_mut_slice.ensures.len c.as_slice-2.ensures.value in
    let filled : map value c.in_ok-filled.filled.items ≡ fill (map value c.in-Some.found.items) (trees c.args.p.now.terms) =
    c.in_ok-filled.ensures ∙ (λ i. fill (map value (c.as_slice-4.ensures.value i)) (trees (c.as_slice-3.ensures i))) in
    let same : map value c.as_slice-5.result.now ≡ map value c.args.inputs.now =
    equal_values (map value c.as_slice-5.result.now) (map value c.args.inputs.now) (sym c.same_values.ensures ∙ c.if-same_values.true) in
    match _ _ _ each (map value c.in-Some.found.items)
    (sym noticed ∙ sym c.in_ok-found.ensures ∙ ap (option_map (λ vs. map value vs.items)) c.in-Some.is)
    (sym filled ∙ sym (ap (map value) c.as_slice-5.ensures.value) ∙ same)

pub returns : goal.returns
returns c = λ each.
    let noticed : all_of (map held c.as_slice-2.result.now) ≡ all_of (collected_all (trees c.args.p.now.terms) (values c.args.inputs.now) (unknown (length c.args.p.now.vars))) =
    noticed_is _ _ _ _ _ _ _ _ _ _ c.as_slice.ensures c.collect_all.ensures c.as_mut_slice.ensures.value c.in_ok-slots.ensures c.len.ensures c.as_mut_slice.ensures.len c.as_slice-2.ensures.value in
    let filled : map value c.in_ok-filled.filled.items ≡ fill (map value c.in-Some.found.items) (trees c.args.p.now.terms) =
    c.in_ok-filled.ensures ∙ (λ i. fill (map value (c.as_slice-4.ensures.value i)) (trees (c.as_slice-3.ensures i))) in
    no_fill _ _ _ each (map value c.in-Some.found.items)
    (sym noticed ∙ sym c.in_ok-found.ensures ∙ ap (option_map (λ vs. map value vs.items)) c.in-Some.is)
    (λ e. other_values (map value c.as_slice-5.result.now) (map value c.args.inputs.now) (sym c.same_values.ensures ∙ c.if-same_values.false)
    (ap (map value) c.as_slice-5.ensures.value ∙ filled ∙ e))

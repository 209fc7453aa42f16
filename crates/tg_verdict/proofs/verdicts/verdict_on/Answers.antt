use Rattle.std.proofs.Common.{◌≡◌, length, map, option_map, Some, None, refl, ap, ◌∙◌, subst}
use Rattle.tg_hyps.specs.Hypotheses.{seen}
use Rattle.tg_model.specs.Filling.{IsMatch}
use Rattle.tg_term.specs.Classes.{inputs_of}
use Rattle.tg_term.specs.Values.{value}
use Rattle.tg_types.specs.declared.verdicts.Verdict.{Verdict}
use Rattle.tg_verdict.specs.Verdicts.{IsAnswered, verdict_at}
use Rattle.tg_verdict.proofs.VerdictLaws.{answered_by, mapped_ok}
use Rattle.tg_verdict.proofs.verdicts.verdict_on.Goals as goal

pub returns-in-Some : goal.returns-in-Some
returns-in-Some c =
    let th = c.args.th.now in
    let k = c.args.c.now in
    let datum = map value c.args.datum.now in
    let a = value c.args.answer.now in
    mapped_ok (λ (v : Verdict). v ≡ verdict_at th c.as_slice.result.now (map value c.as_slice-in-Some.result.now) a) (λ (v : Verdict). IsAnswered th (seen k) datum (Some a) v)
    c.verdict_at.result
    (λ v e. answered_by th k datum a (Some (map value c.in-Some.values.items)) v
    (λ have. subst (λ o. IsMatch (length k.pattern.vars) (inputs_of k.pattern) datum (option_map (λ vs. map value vs.items) o)) c.in-Some.is (c.in_ok-values.ensures have))
    (e ∙ ap (λ ts. verdict_at th ts (map value c.as_slice-in-Some.result.now) a) c.as_slice.ensures
    ∙ ap (λ vs. verdict_at th k.checks (map value vs) a) c.as_slice-in-Some.ensures.value)) c.verdict_at.ensures

pub returns-in-None : goal.returns-in-None
returns-in-None c =
    let th = c.args.th.now in
    let k = c.args.c.now in
    let datum = map value c.args.datum.now in
    let a = value c.args.answer.now in
    answered_by th k datum a None _
    (λ have. subst (λ o. IsMatch (length k.pattern.vars) (inputs_of k.pattern) datum (option_map (λ vs. map value vs.items) o)) c.in-None.is (c.in_ok-values.ensures have))
    refl

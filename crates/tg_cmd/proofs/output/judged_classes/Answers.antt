use Rattle.std.proofs.Common.{ℕ, List, [], length, map, sym, ap, ◌∙◌, subst}
use Rattle.tg_hyps.specs.Hypotheses.{seen}
use Rattle.tg_derive.specs.Answers.{choice_of}
use Rattle.tg_term.specs.declared.classes.Outcome.{Outcome}
use Rattle.tg_verdict.specs.Places.{AreOnce, test_number, outcome_number}
use Rattle.tg_verdict.specs.Records.{AreOutcomes, Stops}
use Rattle.tg_cmd.specs.declared.output.Output as code
use Rattle.tg_cmd.specs.Answers.{answer_after}
use Rattle.tg_harness.specs.Tests.{record_of}
use Rattle.tg_cmd.specs.Output.{IsJudgement, IsOutcomeLine, OfOutcomes, unread, read}
use Rattle.tg_cmd.proofs.DataLaws.{as_many}
use Rattle.tg_cmd.proofs.Judgements.{test_numbers}
use Rattle.tg_cmd.proofs.Outputs.{mapped_ok}
use Rattle.tg_cmd.proofs.RecordLaws.{each_once}
use Rattle.tg_cmd.proofs.output.judged_classes.Goals as goal

pub tests_of-requires : goal.tests_of-requires
tests_of-requires c =
    as_many c.args.theory.now c.args.settings.now c.args.classes.now c.in_ok-choices.choices.items c.in_ok-choices.ensures ∙ ap length (sym c.as_slice.ensures.value)

pub judgement-requires-clause-once : goal.judgement-requires-clause-once
judgement-requires-clause-once c =
    subst (λ (os : List Outcome). AreOnce (map outcome_number os)) (sym c.as_slice-in-Ok-3.ensures.value)
    (each_once c.args.theory.now (map test_number c.as_slice-2.result.now) [] c.args.outcomes.now.items c.in-Ok.list.items c.in-Ok.ensures.outcomes.records)

pub returns-in-Ok : goal.returns-in-Ok
returns-in-Ok c =
    let s = c.args.settings.now in
    let th = c.args.theory.now in
    let raw = c.args.outcomes.now in
    let cs = map seen c.args.classes.now in
    let from_data = ap (map choice_of) c.as_slice.ensures.value ∙ c.in_ok-choices.ensures in
    let tests = c.in_ok-tests.ensures in
    let known = ap (map test_number) c.as_slice-2.ensures.value
    ∙ test_numbers th c.accepted.ensures.accepted s c.args.classes.now c.as_slice.result.now c.in_ok-tests.tests.items c.requires from_data tests in
    mapped_ok (λ (o : code.Output). IsJudgement s th cs (map record_of c.as_slice-in-Ok-3.result.now) (answer_after o.ending) o.text.items)
    (λ (o : code.Output). OfOutcomes s raw th cs (answer_after o.ending) o.text.items) c.judgement.result
    (λ o h. read c.in-Ok.list.items
    (subst (λ (ns : List ℕ). AreOutcomes th s ns raw c.in-Ok.list.items) known c.in-Ok.ensures.outcomes)
    (subst (λ (os : List Outcome). IsJudgement s th cs (map record_of os) (answer_after o.ending) o.text.items) c.as_slice-in-Ok-3.ensures.value h)) c.judgement.ensures

pub returns : goal.returns
returns c =
    let s = c.args.settings.now in
    let th = c.args.theory.now in
    let raw = c.args.outcomes.now in
    let cs = map seen c.args.classes.now in
    let from_data = ap (map choice_of) c.as_slice.ensures.value ∙ c.in_ok-choices.ensures in
    let known = ap (map test_number) c.as_slice-2.ensures.value
    ∙ test_numbers th c.accepted.ensures.accepted s c.args.classes.now c.as_slice.result.now c.in_ok-tests.tests.items c.requires from_data c.in_ok-tests.ensures in
    mapped_ok (λ (o : code.Output). IsOutcomeLine c.in-Err.error (answer_after o.ending) o.text.items)
    (λ (o : code.Output). OfOutcomes s raw th cs (answer_after o.ending) o.text.items) c.unread.result
    (λ o h. unread c.in-Err.error (subst (λ (ns : List ℕ). Stops th s ns raw c.in-Err.error) known c.in-Err.ensures.stop) h) c.unread.ensures

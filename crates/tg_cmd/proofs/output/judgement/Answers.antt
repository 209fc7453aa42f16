use Rattle.std.proofs.Common.{length, map, sym, ap, ◌∙◌}
use Rattle.tg_hyps.specs.Hypotheses.{seen}
use Rattle.tg_render.specs.Render.{lines}
use Rattle.tg_cmd.specs.Lines.{judged_lines}
use Rattle.tg_cmd.specs.Output.{ending_on}
use Rattle.tg_cmd.proofs.DataLaws.{as_many}
use Rattle.tg_cmd.proofs.Judgements.{each_test_once, verdict_for_each, judged}
use Rattle.tg_cmd.proofs.output.judgement.Goals as goal

pub judge-requires-clause-tests : goal.judge-requires-clause-tests
judge-requires-clause-tests c =
    each_test_once c.args.theory.now c.accepted.ensures.accepted c.args.settings.now c.args.classes.now c.args.choices.now c.args.tests.now
    c.requires.classes c.requires.choices c.requires.tests

pub judged_report_on-requires-clause-choices : goal.judged_report_on-requires-clause-choices
judged_report_on-requires-clause-choices c = as_many c.args.theory.now c.args.settings.now c.args.classes.now c.args.choices.now c.requires.choices

pub judged_report_on-requires-clause-verdicts : goal.judged_report_on-requires-clause-verdicts
judged_report_on-requires-clause-verdicts c =
    verdict_for_each c.args.theory.now c.args.settings.now c.args.classes.now c.args.choices.now c.args.tests.now c.args.list.now c.in_ok-verdicts.verdicts.items
    c.requires.choices c.in_ok-verdicts.ensures ∙ ap length (sym c.as_slice-verdicts.ensures.value)

pub returns : goal.returns
returns c =
    let th = c.args.theory.now in
    let s = c.args.settings.now in
    let cs = map seen c.args.classes.now in
    let verdicts = c.as_slice-verdicts.ensures.value
    ∙ judged th c.accepted.ensures.accepted s c.args.classes.now c.args.choices.now c.args.tests.now c.requires.classes c.requires.choices c.requires.tests
    c.args.list.now c.in_ok-verdicts.verdicts.items c.in_ok-verdicts.ensures in
    record {
      answers = c.ending_on-ending.ensures ∙ ap ending_on verdicts;
      says = c.in_ok-judged_report_on.ensures ∙ (λ i. lines (judged_lines th s cs (c.requires.choices i) (verdicts i)));
    }

use Rattle.std.proofs.Common.{length, sym, ap, ◌∙◌}
use Rattle.tg_cmd.proofs.TestLaws.{chosen_as_many}
use Rattle.tg_cmd.proofs.report.judged_report_on.Goals as goal

pub put_judged-requires-clause-chosen : goal.put_judged-requires-clause-chosen
put_judged-requires-clause-chosen c =
    c.requires.choices ∙ chosen_as_many c.args.choices.now c.in_ok-chosen.chosen.items c.args.verdicts.now c.requires.verdicts c.in_ok-chosen.ensures
    ∙ ap length (sym c.as_slice.ensures.value)

use Rattle.std.proofs.Common.{length, sym, ap, ◌∙◌}
use Rattle.tg_cmd.proofs.DataLaws.{as_many}
use Rattle.tg_cmd.proofs.report.report_on.Goals as goal

pub put_report-requires : goal.put_report-requires
put_report-requires c =
    as_many c.args.th.now c.args.s.now c.args.classes.now c.in_ok-choices.choices.items c.in_ok-choices.ensures ∙ ap length (sym c.as_slice.ensures.value)

use Rattle.std.proofs.Common.{length, sym, ap, ◌∙◌}
use Rattle.tg_cmd.proofs.DataLaws.{as_many}
use Rattle.tg_cmd.proofs.making.tests_by_data.Goals as goal

pub tests_of-requires : goal.tests_of-requires
tests_of-requires c =
    as_many c.args.theory.now c.args.settings.now c.args.classes.now c.in_ok-choices.choices.items c.in_ok-choices.ensures ∙ ap length (sym c.as_slice.ensures.value)

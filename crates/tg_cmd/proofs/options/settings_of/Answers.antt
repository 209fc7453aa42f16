use Rattle.tg_cmd.proofs.Choices.{makes_settings, no_settings}
use Rattle.tg_cmd.proofs.options.settings_of.Goals as goal

pub returns-in_err-chosen : goal.returns-in_err-chosen
returns-in_err-chosen c = rw c.from_residual.ensures (no_settings c.args.words.now c.in_err-chosen.ensures)

pub returns : goal.returns
returns c = makes_settings c.args.words.now c.in_ok-chosen.chosen c.settings_in.result c.in_ok-chosen.ensures c.settings_in.ensures

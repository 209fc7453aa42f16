use Rattle.std.proofs.Common.{true, false, ◌≡◌, sym, ◌∙◌}
use Rattle.tg_cmd.proofs.Choices.{not_allowed}
use Rattle.tg_cmd.proofs.options.choice_of.Goals as goal

pub returns-else-is_allowed : goal.returns-else-is_allowed
returns-else-is_allowed c =
    not_allowed c.args.option.now c.args.number.now c.in_ok-setting.setting c.in_ok-number.number c.in_ok-number.ensures.0 c.in_ok-setting.ensures
    (sym c.bytes.ensures ∙ c.in_ok-number.ensures.1) (λ allowed. let wrong : false ≡ true = c.if-is_allowed.ensures.1 allowed in absurd cc)

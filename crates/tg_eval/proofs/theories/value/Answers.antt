use Rattle.std.proofs.Common.{◌≡◌, ◌∙◌, [], map, ap, subst}
use Rattle.std.specs.Prelude.{option_map, option_copied, unwrap_or}
use Rattle.tg_model.specs.Value.{wrong}
use Rattle.tg_accept.specs.Declared.{theory}
use Rattle.tg_term.specs.Values.{value}
use Rattle.tg_eval.specs.Answering.{answered, value_part}
use Rattle.tg_eval.specs.Limited.{limited_value}
use Rattle.tg_eval.proofs.Unnamed.{limited_unnamed}
use Rattle.tg_eval.proofs.theories.value.Goals as goal

pub returns : goal.returns
returns c =
    let answer = unwrap_or (option_map value (option_copied c.args.answer)) wrong in
    let vars = map value c.args.vars.now in
    c.in_ok-limited.ensures
    ∙ ap (λ ev. value_part (ev 10000 vars [] c.args.t.now)) (limited_unnamed [] c.args.th.now.name c.declarations.result.now answer 500)
    ∙ ap (λ th. value_part (limited_value th answer vars c.args.t.now)) c.declarations.ensures.named

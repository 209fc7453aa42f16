use Rattle.std.proofs.Common.{◌≡◌, ◌++◌, [], ◌∷◌, ◌∙◌, ap}
use Rattle.tg_typing.proofs.FrameLaws.{choice_framed, if_ok}
use Rattle.tg_typing.proofs.framing.frame_choice.Goals as goal

pub returns : goal.returns
returns c =
    let three : c.push-5.new.self ≡ c.in_ok-condition.condition ∷ c.in_ok-side.side ∷ c.in_ok-side.side ∷ [] =
    c.in_ok-push-3.ensures.ok ∙ ap (λ es. es ++ c.in_ok-side.side ∷ [])
    (c.in_ok-push-2.ensures.ok ∙ ap (λ es. es ++ c.in_ok-side.side ∷ [])
    (c.in_ok-push.ensures.ok ∙ ap (λ es. es ++ c.in_ok-condition.condition ∷ []) c.new-es.ensures)) in
    if_ok c.close.result (λ found closes.
    choice_framed c.args.table.now c.push.new.self c.push-2.new.self c.close.new.table c.push-5.new.self c.args.expected c.in_ok-side.side
    c.in_ok-condition.condition found c.in_ok-side.ensures.table c.in_ok-side.ensures.ok c.in_ok-side.ensures.place c.in_ok-condition.ensures.table
    c.in_ok-condition.ensures.ok c.in_ok-condition.ensures.place three c.requires.expected closes)
    c.close.ensures

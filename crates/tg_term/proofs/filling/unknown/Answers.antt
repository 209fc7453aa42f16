use Rattle.std.proofs.Common.{◌++◌, [], ◌∷◌, None, map, ap, ◌∙◌}
use Rattle.std.proofs.lemmas.List.{map-append}
use Rattle.tg_term.specs.Matching.{held}
use Rattle.tg_term.proofs.MatchLaws.{unknown_more}
use Rattle.tg_term.proofs.filling.unknown.Goals as goal

pub loop-preserved : goal.loop-preserved
loop-preserved c =
    ap (map held) c.in_ok-push.ensures.items ∙ map-append held c.loop.slots.items (None ∷ [])
    ∙ ap (λ s. s ++ None ∷ []) c.loop.invariant ∙ unknown_more c.loop.counter

use Rattle.std.proofs.Common.{◌≡◌, ◌++◌, [], ◌∷◌, Some, ap, sym, ◌∙◌}
use Rattle.std.specs.Prelude.{slice_get, option_map}
use Rattle.tg_term.specs.Parts.{seen, parts}
use Rattle.tg_term.specs.View.{tree}
use Rattle.tg_term.proofs.PartLaws.{taken_next}
use Rattle.tg_term.proofs.parts.share_parts.Goals as goal

pub loop-at-preserved : goal.loop-at-preserved
loop-at-preserved c =
    let e : slice_get (parts (tree c.args.node.now)) c.loop-at.at ≡ Some (seen c.in-Some.part) = sym c.part_at.ensures ∙ ap (option_map seen) c.in-Some.is in
    taken_next _ _ _ _ _ _ e c.loop-at.invariant (c.in_ok-push.ensures.items ∙ ap (λ t. c.loop-at.terms.items ++ t ∷ []) c.in_ok-share.ensures)

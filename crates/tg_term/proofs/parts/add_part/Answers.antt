use Rattle.std.proofs.Common.{◌≡◌, ◌≢◌, ◌++◌, [], ◌∷◌, ap, ◌∙◌, arith, unwrap_or}
use Rattle.std.proofs.lemmas.Grind.{common_steps}
use Rattle.tg_term.specs.Parts.{parts, seen}
use Rattle.tg_term.specs.View.{tree}
use Rattle.tg_term.proofs.PartLaws.{begun, added}
use Rattle.tg_term.proofs.parts.add_part.Goals.{then-is_empty-2+in_ok-share_parts-in-Some, else-is_empty-2}
use Rattle.tg_term.proofs.parts.add_part.Goals as goal

pub returns-in_ok-push-in-Some : goal.returns-in_ok-push-in-Some
returns-in_ok-push-in-Some c = λ f same k.
    elim c.if-is_empty-2.branch [
      | then-is_empty-2+in_ok-share_parts-in-Some w ↦
          let none : c.args.terms.now.items ≡ [] = grind (arith, common_steps) in
          begun f (parts (tree c.args.node.now)) c.args.at (seen c.args.part.now) c.requires _ _ _ c.in-Some.u none
          (same ∙ ap (λ o. unwrap_or o c.args.part.now.term.now) c.in-Some.is) (ap (λ v. v.items) w.terms-is ∙ w.in_ok-share_parts-in-Some.ensures) c.in_ok-push-in-Some.ensures.items k
      | else-is_empty-2 w ↦
          let some : c.args.terms.now.items ≢ [] = grind (arith, common_steps) in
          added f (parts (tree c.args.node.now)) c.args.at (seen c.args.part.now) c.requires _ _ c.in-Some.u some
          (same ∙ ap (λ o. unwrap_or o c.args.part.now.term.now) c.in-Some.is) (c.in_ok-push-in-Some.ensures.items ∙ ap (λ v. v.items ++ c.in-Some.u ∷ []) w.terms-is) k
    ]

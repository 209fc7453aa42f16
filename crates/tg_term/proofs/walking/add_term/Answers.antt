use Rattle.std.proofs.Common.{◌≡◌, ◌≢◌, ◌++◌, [], ◌∷◌, ap, sym, ◌∙◌, arith, unwrap_or}
use Rattle.std.proofs.lemmas.Grind.{common_steps}
use Rattle.tg_model.specs.Tree.{trees}
use Rattle.tg_term.specs.Parts.{outside, plain}
use Rattle.tg_term.proofs.PartLaws.{begun_with, added_with, plain_terms}
use Rattle.tg_term.proofs.walking.add_term.Goals.{then-is_empty-2+in_ok-share_all-in-Some, else-is_empty-2}
use Rattle.tg_term.proofs.walking.add_term.Goals as goal

pub returns-in_ok-push-in-Some : goal.returns-in_ok-push-in-Some
returns-in_ok-push-in-Some c = λ f same k.
    elim c.if-is_empty-2.branch [
      | then-is_empty-2+in_ok-share_all-in-Some w ↦
          let none : c.args.terms.now.items ≡ [] = grind (arith, common_steps) in
          begun_with f (plain (trees c.args.before.now)) (outside c.args.t.now) _ _ _ c.in-Some.u none
          (same ∙ ap (λ o. unwrap_or o c.args.t.now) c.in-Some.is)
          (ap (λ v. v.items) w.terms-is ∙ w.in_ok-share_all-in-Some.ensures ∙ ap (λ l. c.args.terms.now.items ++ l) (sym (plain_terms c.args.before.now)))
          c.in_ok-push-in-Some.ensures.items k
      | else-is_empty-2 w ↦
          let some : c.args.terms.now.items ≢ [] = grind (arith, common_steps) in
          added_with f (plain (trees c.args.before.now)) (outside c.args.t.now) _ _ c.in-Some.u some
          (same ∙ ap (λ o. unwrap_or o c.args.t.now) c.in-Some.is) (c.in_ok-push-in-Some.ensures.items ∙ ap (λ v. v.items ++ c.in-Some.u ∷ []) w.terms-is) k
    ]

use Rattle.std.proofs.Common.{◌≡◌, ◌+◌, ◌++◌, ◌∷◌, [], sym, ap, ◌∙◌, rules, add-one, arith}
use Rattle.tg_model.specs.Accepted.{variables_from}
use Rattle.tg_model.specs.Tree.{free}
use Rattle.tg_cmd.proofs.StandIns.{one_variable_more}
use Rattle.tg_cmd.proofs.standing.call_of.Goals as goal

pub loop-at-preserved : goal.loop-at-preserved
loop-at-preserved c =
    let m : c.in_ok-number.number ≡ c.loop-at.at + 1 = search rules in
    let z : c.in_ok-number.number ≡ 1 + c.loop-at.at = omega (arith, m) in
    c.in_ok-push.ensures.ok ∙ (λ i. c.loop-at.invariant i ++ (c.in_ok-new.ensures.is ∙ ap free z) i ∷ []) ∙ sym (one_variable_more 1 c.loop-at.at)
    ∙ ap (variables_from 1) (sym (add-one c.loop-at.at))

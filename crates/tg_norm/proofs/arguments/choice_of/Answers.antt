use Rattle.std.proofs.Common.{rules, ◌≡◌, IfOk, length, subst, ap, ◌∙◌}
use Rattle.tg_model.specs.Tree.{Tree, choice, trees}
use Rattle.tg_norm.proofs.ArgumentLaws.{choice_rebuilt}
use Rattle.tg_norm.proofs.arguments.choice_of.Goals as goal

pub returns : goal.returns
returns c =
    let n : c.len-after.result ≡ length c.args.condition.items = search rules in
    subst (λ (x : Tree). IfOk c.new.result (λ t. t ≡ x))
    (ap (λ l. choice (trees l)) c.from_vec.ensures
    ∙ choice_rebuilt c.args.ts.now c.args.condition.items c.add_shared.new.terms.items c.len-after.result n c.in_ok-add_shared.ensures c.requires)
    c.new.ensures.is

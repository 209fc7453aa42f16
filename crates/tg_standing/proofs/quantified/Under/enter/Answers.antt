use Rattle.std.proofs.Common.{◌≡◌, ◌∙◌, ◌++◌, ◌∷◌, [], ap, rules}
use Rattle.tg_infer.specs.Binders.{binders, HaveBound}
use Rattle.tg_accept.specs.Raw.{level}
use Rattle.std.specs.Prelude.{suc, length}
use Rattle.tg_standing.proofs.QuantifiedLaws.{entered}
use Rattle.tg_standing.proofs.quantified.Under.enter.Goals as goal

pub returns : goal.returns
returns c =
    let under = c.args.self.now in
    let bound : HaveBound under.binders c.bind_next.new.self (level (suc (length (binders under.binders)))) = search rules in
    let pushed : c.push.new.self.items ≡ under.types.items ++ c.in_ok-copy.field-0 ∷ [] = search rules in
    let items : c.push.new.self.items ≡ under.types.items ++ c.args.t.now ∷ [] = pushed ∙ ap (λ u. under.types.items ++ u ∷ []) c.in_ok-copy.ensures in
    entered under _ c.args.t.now c.requires.under c.requires.declared bound items

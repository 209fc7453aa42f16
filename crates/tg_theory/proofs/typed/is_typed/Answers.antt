use Rattle.std.proofs.Common.{◌≡◌, ◌↔◌, [], true, map, reverse, subst, sym}
use Rattle.tg_model.specs.TermTyping.{IsTyped}
use Rattle.tg_accept.specs.Declared.{theory}
use Rattle.tg_types.specs.Types.{ty}
use Rattle.tg_typing.specs.View.{resolved}
use Rattle.tg_theory.proofs.FormedLaws.{closed_types, has_told}
use Rattle.tg_theory.proofs.typed.is_typed.Goals as goal

pub count_typings_at-requires-clause-closed : goal.count_typings_at-requires-clause-closed
count_typings_at-requires-clause-closed c = closed_types c.args.declared.now c.requires.kept

pub returns : goal.returns
returns c =
    subst (λ b. (b ≡ true) ↔ IsTyped (theory [] c.args.declared.now) (map ty c.args.vars.now) (reverse (map ty c.args.locs.now)) c.args.t.now (ty c.args.at.now)) (sym c.has_typing.ensures)
    (has_told c.args.declared.now c.args.vars.now c.args.locs.now c.args.t.now (ty c.args.at.now) (resolved c.in_ok-resolved.resolved) c.in_ok-resolved.ensures
    c.in_ok-typings.typings c.in_ok-typings.ensures)

use Rattle.std.proofs.Common.{◌≡◌, true, Some, rules}
use Rattle.tg_infer.specs.Binders.{binders}
use Rattle.tg_infer.specs.View.{raw_term}
use Rattle.tg_typing.specs.View.{resolved}
use Rattle.tg_standing.specs.Places.{IsLookedUp, Gives}
use Rattle.tg_standing.proofs.TermLaws.{some_term}
use Rattle.tg_standing.proofs.terms.term.Goals as goal

pub returns : goal.returns
returns c =
    let place = c.args.place.now in
    let up : Gives c.new-outer.result c.look_up.new.outer (IsLookedUp place.th.now (binders c.new-outer.result) (raw_term c.args.raw.now)) (Some (resolved c.in-Some.r)) = search rules in
    let typed : c.in_ok-is_typed.field-0 ≡ true = search rules in
    some_term place.th.now place.vars.now (raw_term c.args.raw.now) c.new-outer.result c.look_up.new.outer c.new-outer.ensures.none (resolved c.in-Some.r) up
    c.in_ok-is_typed.field-0 c.in_ok-is_typed.ensures typed c.in_ok-t.t c.in_ok-t.ensures

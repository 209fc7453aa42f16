use Rattle.std.proofs.Common.{Some, sym, refl}
use Rattle.std.proofs.lemmas.Option.{slice_get_read}
use Rattle.tg_verdict.proofs.PlaceLaws.{outcome_at, outcome_within}
use Rattle.tg_verdict.proofs.verdicts.outcome_of.Goals as goal

pub returns-in-Some : goal.returns-in-Some
returns-in-Some c =
    let less = outcome_within c.args.list.now c.args.numbers.now c.in-Some.at c.args.number c.requires.numbers c.in-Some.ensures in
    outcome_at c.args.list.now c.args.numbers.now c.in-Some.at c.args.number (Some c.index-list-at.result) c.requires.once c.requires.numbers c.in-Some.ensures
    (sym (slice_get_read c.args.list.now _ _ c.index-list-at.result refl less c.index-list-at.is))

use Rattle.tg_types.specs.Types.{ty}
use Rattle.tg_typing.specs.View.{resolved}
use Rattle.tg_standing.proofs.PlaceLaws.{closed_in, told_at}
use Rattle.tg_standing.proofs.places.Place.is_typed_at.Goals as goal

pub count_typings_at-requires-clause-closed : goal.count_typings_at-requires-clause-closed
count_typings_at-requires-clause-closed c = closed_in c.args.self.now c.requires.place

pub returns : goal.returns
returns c =
    told_at c.args.self.now c.requires.place c.args.locs.now (resolved c.args.t.now) (ty c.args.at.now) c.in_ok-typings.typings c.is_some.result c.in_ok-typings.ensures
    c.is_some.ensures

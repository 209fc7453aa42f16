use Rattle.tg_typing.specs.View.{resolved}
use Rattle.tg_standing.proofs.PlaceLaws.{closed_in, told}
use Rattle.tg_standing.proofs.places.Place.is_typed.Goals as goal

pub count_typings-requires-clause-closed : goal.count_typings-requires-clause-closed
count_typings-requires-clause-closed c = closed_in c.args.self.now c.requires

pub returns : goal.returns
returns c = told c.args.self.now c.requires (resolved c.args.t.now) c.in_ok-typings.typings c.is_some.result c.in_ok-typings.ensures c.is_some.ensures

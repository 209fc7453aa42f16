use Rattle.tg_model.proofs.Constructors.{least_has_its_type, values_are_made, numbers_are_places}
use Rattle.tg_model.proofs.values_of_types.Goals as goal

pub returns-clause-least : goal.returns-clause-least
returns-clause-least c = least_has_its_type

pub returns-clause-made : goal.returns-clause-made
returns-clause-made c = values_are_made

pub returns-clause-numbers : goal.returns-clause-numbers
returns-clause-numbers c = numbers_are_places

use Rattle.tg_model.proofs.Contexts.{types_depend_on_used, form_depends_on_used, used_have_types, used_in_formulas_have_types, contexts_grow, contexts_grow_form}
use Rattle.tg_model.proofs.ClosedValues.{is_closed_value}
use Rattle.tg_model.proofs.typing_contexts.Goals as goal

pub returns-clause-types : goal.returns-clause-types
returns-clause-types c = types_depend_on_used

pub returns-clause-form : goal.returns-clause-form
returns-clause-form c = form_depends_on_used

pub returns-clause-used : goal.returns-clause-used
returns-clause-used c = used_have_types

pub returns-clause-used_in_formulas : goal.returns-clause-used_in_formulas
returns-clause-used_in_formulas c = used_in_formulas_have_types

pub returns-clause-larger : goal.returns-clause-larger
returns-clause-larger c = contexts_grow

pub returns-clause-larger_form : goal.returns-clause-larger_form
returns-clause-larger_form c = contexts_grow_form

pub returns-clause-closed : goal.returns-clause-closed
returns-clause-closed c = is_closed_value

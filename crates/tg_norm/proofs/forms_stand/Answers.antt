use Rattle.tg_norm.proofs.MadeForms.{made_form, form_has_none}
use Rattle.tg_norm.proofs.ConditionTypes.{condition_typed}
use Rattle.tg_norm.proofs.forms_stand.Goals as goal

pub returns-clause-made : goal.returns-clause-made
returns-clause-made c = made_form

pub returns-clause-lets : goal.returns-clause-lets
returns-clause-lets c = form_has_none

pub returns-clause-conditions : goal.returns-clause-conditions
returns-clause-conditions c = λ th t q w vars locs a is e typed. condition_typed th vars locs w.form a q (form_has_none th t w is) e typed

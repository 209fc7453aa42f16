use Rattle.tg_calculus.proofs.ConditionLaws.{joined_is_union, left_is_difference, reflexive_is_typed, schema_is_typed, empty_has_no_variable}
use Rattle.tg_calculus.proofs.conditions.Goals as goal

pub returns-clause-joined : goal.returns-clause-joined
returns-clause-joined c = joined_is_union

pub returns-clause-left : goal.returns-clause-left
returns-clause-left c = left_is_difference

pub returns-clause-reflexive : goal.returns-clause-reflexive
returns-clause-reflexive c = reflexive_is_typed

pub returns-clause-schema : goal.returns-clause-schema
returns-clause-schema c = schema_is_typed

pub returns-clause-compute : goal.returns-clause-compute
returns-clause-compute c = empty_has_no_variable

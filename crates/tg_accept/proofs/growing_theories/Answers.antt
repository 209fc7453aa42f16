use Rattle.tg_accept.proofs.KeptTheories.{datatypes_keep, functions_keep, programs_keep, specifications_keep, whole_is_accepted}
use Rattle.tg_accept.proofs.growing_theories.Goals as goal

pub returns-clause-datatypes : goal.returns-clause-datatypes
returns-clause-datatypes c = datatypes_keep

pub returns-clause-functions : goal.returns-clause-functions
returns-clause-functions c = functions_keep

pub returns-clause-programs : goal.returns-clause-programs
returns-clause-programs c = programs_keep

pub returns-clause-specifications : goal.returns-clause-specifications
returns-clause-specifications c = specifications_keep

pub returns-clause-whole : goal.returns-clause-whole
returns-clause-whole c = whole_is_accepted

use Rattle.tg_accept.proofs.Misnamed.{terms_are_misnamed}
use Rattle.tg_accept.proofs.MisnamedDeclarations.{datatypes_are_misnamed, functions_are_misnamed, programs_are_misnamed, specifications_are_misnamed}
use Rattle.tg_accept.proofs.misnamed_texts.Goals as goal

pub returns-clause-terms : goal.returns-clause-terms
returns-clause-terms c = terms_are_misnamed

pub returns-clause-datatypes : goal.returns-clause-datatypes
returns-clause-datatypes c = datatypes_are_misnamed

pub returns-clause-functions : goal.returns-clause-functions
returns-clause-functions c = functions_are_misnamed

pub returns-clause-programs : goal.returns-clause-programs
returns-clause-programs c = programs_are_misnamed

pub returns-clause-specifications : goal.returns-clause-specifications
returns-clause-specifications c = specifications_are_misnamed

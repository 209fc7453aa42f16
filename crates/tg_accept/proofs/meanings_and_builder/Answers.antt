use Rattle.tg_accept.proofs.FunctionMeanings.{function_is_meant, program_is_meant, specification_is_meant}
use Rattle.tg_accept.proofs.Told.{datatype_told, function_told, program_told, specification_told}
use Rattle.tg_accept.proofs.meanings_and_builder.Goals as goal

pub returns-clause-function : goal.returns-clause-function
returns-clause-function c = function_is_meant

pub returns-clause-program : goal.returns-clause-program
returns-clause-program c = program_is_meant

pub returns-clause-specification : goal.returns-clause-specification
returns-clause-specification c = specification_is_meant

pub returns-clause-datatype_told : goal.returns-clause-datatype_told
returns-clause-datatype_told c = datatype_told

pub returns-clause-function_told : goal.returns-clause-function_told
returns-clause-function_told c = function_told

pub returns-clause-program_told : goal.returns-clause-program_told
returns-clause-program_told c = program_told

pub returns-clause-specification_told : goal.returns-clause-specification_told
returns-clause-specification_told c = specification_told

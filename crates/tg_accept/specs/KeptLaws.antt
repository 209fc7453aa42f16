-- A declaration without a fault, put behind what is kept, keeps it; and all that is kept, with a program and a specification, is an
-- accepted theory.
use Rattle.std.specs.Prelude.{ℕ, ◌≡◌, List, [], Some, None}
use Rattle.tg_model.specs.Tree.{Tree}
use Rattle.tg_model.specs.Theory.{Datatype, Function, Program}
use Rattle.tg_model.specs.Accepted.{IsAccepted}
use Rattle.tg_accept.specs.Declared.{Declared, nothing, with_datatype, with_function, with_program, with_specification, theory}
use Rattle.tg_accept.specs.Kept.{IsKept}
use Rattle.tg_accept.specs.Faults.{datatype_fault, function_fault, program_fault, specification_fault}
use Rattle.tg_accept.specs.Meant.{IsDatatypeMeant, IsFunctionMeant, IsProgramMeant, IsSpecificationMeant}

abbrev pub NothingIsKept : Type 0
NothingIsKept = IsKept nothing

abbrev pub KeptWithDatatype : Type 0
KeptWithDatatype = (D : Declared) (x : Datatype) → IsKept D → IsDatatypeMeant D x → datatype_fault D x ≡ None → IsKept (with_datatype D x)

abbrev pub KeptWithFunction : Type 0
KeptWithFunction = (D : Declared) (x : Function) → IsKept D → IsFunctionMeant D x → function_fault D x ≡ None → IsKept (with_function D x)

abbrev pub KeptWithProgram : Type 0
KeptWithProgram = (D : Declared) (p : Program) → IsKept D → IsProgramMeant D p → program_fault D p ≡ None → IsKept (with_program D p)

abbrev pub KeptWithSpecification : Type 0
KeptWithSpecification =
    (D : Declared) (t : Tree) → IsKept D → IsSpecificationMeant (theory [] D) D.program t → specification_fault D t ≡ None → IsKept (with_specification D t)

abbrev pub WholeIsAccepted : Type 0
WholeIsAccepted = (name : List ℕ) (D : Declared) (p : Program) (t : Tree) → IsKept D → D.program ≡ Some p → D.specification ≡ Some t → IsAccepted (theory name D)

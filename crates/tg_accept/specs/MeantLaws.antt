-- What a declaration means is what the builder asks for, and what the builder answers tells which checks are left.
use Rattle.std.specs.Prelude.{ℕ, Bool, true, false, ◌≡◌, List, [], Option, Some, None}
use Rattle.tg_model.specs.Theory.{Datatype, Program}
use Rattle.tg_model.specs.Accepted.{AreDistinct}
use Rattle.tg_accept.specs.Declared.{Declared, theory}
use Rattle.tg_accept.specs.Faults.{Fault, name, shape, program, datatype_fault, function_fault, program_fault, specification_fault}
use Rattle.tg_accept.specs.Meant.{IsFunctionMeant, IsProgramMeant, IsSpecificationMeant}
use Rattle.tg_accept.specs.Resolved.{Resolved}
use Rattle.tg_accept.specs.Raw.{Name, RawType, RawConstructor, RawEquation}
use Rattle.tg_accept.specs.Typings.{HasTyping}
use Rattle.tg_accept.specs.Datatypes.{datatype_meant, IsDatatypeShaped}
use Rattle.tg_accept.specs.Functions.{Meant, function_meant, whole_function, IsTypable, IsPrimrecWritten, IsDefinitionShaped, IsFunctionShaped, NamesNoProgram}
use Rattle.tg_accept.specs.Programs.{program_meant, IsProgramMade, IsProgramFit, IsForProgram, IsSpecificationTyping, IsSpecificationShaped, IsSpecificationFit, whole_specification}

-- the rules of shape that the written equations alone show
abbrev pub IsFunctionWritten : Declared → Bool → Meant → Type 0
IsFunctionWritten D true m = IsPrimrecWritten D m
IsFunctionWritten D false m = IsDefinitionShaped D m

abbrev pub FunctionIsMeant : Type 0
FunctionIsMeant = (D : Declared) (is_recursive : Bool) (m : Meant) → IsTypable D is_recursive m → IsFunctionWritten D is_recursive m
    → IsFunctionMeant D (whole_function D is_recursive m)

abbrev pub ProgramIsMeant : Type 0
ProgramIsMeant = (D : Declared) (params : ℕ) (p : Program) → IsProgramMade D params p → IsProgramMeant D p

abbrev pub SpecificationIsMeant : Type 0
SpecificationIsMeant = (D : Declared) (xs : List Name) (t : Resolved) → HasTyping (IsSpecificationTyping D t) → IsSpecificationShaped D xs t
    → IsSpecificationMeant (theory [] D) D.program (whole_specification D t)

-- what the builder's answer tells of a declaration's shape, and of what is said of the program there
abbrev pub Tells : Option Fault → Type 0 → Type 0 → Type 0
Tells None Shaped Fit = Shaped × Fit
Tells (Some (name x)) Shaped Fit = ⊥
Tells (Some shape) Shaped Fit = ¬ Shaped
Tells (Some program) Shaped Fit = Shaped × (¬ Fit)

abbrev pub DatatypeTold : Type 0
DatatypeTold = (D : Declared) (x : Name) (params : List Name) (cs : List RawConstructor) (m : Datatype) → datatype_meant D x params cs ≡ Some m
    → AreDistinct params → Tells (datatype_fault D m) (IsDatatypeShaped D params m) (Unit {0})

abbrev pub FunctionTold : Type 0
FunctionTold = (D : Declared) (x : Name) (is_recursive : Bool) (ts : List RawType) (es : List RawEquation) (m : Meant)
    → function_meant D x is_recursive ts es ≡ Some m → IsTypable D is_recursive m → IsFunctionWritten D is_recursive m
    → Tells (function_fault D (whole_function D is_recursive m)) (IsFunctionShaped D is_recursive m) (NamesNoProgram m)

abbrev pub ProgramTold : Type 0
ProgramTold = (D : Declared) (x : Name) (ts : List RawType) (p : Program) → program_meant D x ts ≡ Some p
    → Tells (program_fault D p) (Unit {0}) (IsProgramFit D p)

abbrev pub SpecificationTold : Type 0
SpecificationTold = (D : Declared) (xs : List Name) (t : Resolved) → IsForProgram D xs → HasTyping (IsSpecificationTyping D t) → IsSpecificationShaped D xs t
    → Tells (specification_fault D (whole_specification D t)) (Unit {0}) (IsSpecificationFit D t)

-- Which fault an error tells.
use Rattle.std.specs.Prelude.{◌≡◌, ◌&&◌, Option, Some, None, is_some, if◌then◌else◌}
use Rattle.tg_accept.specs.Declared.{Declared}
use Rattle.tg_accept.specs.Faults.{Fault, name, shape, program}
use Rattle.tg_theory.specs.declared.errors.BuildErr.{BuildErr}
use Rattle.tg_theory.specs.declared.errors.BuildErr.TheVariants.{Name, Shape, Program, Memory}

-- an error other than want of memory is the fault
abbrev pub IsCause : Option Fault → BuildErr → Type 0
IsCause fault (Name x) = fault ≡ Some (name x)
IsCause fault Shape = fault ≡ Some shape
IsCause fault Program = fault ≡ Some program
IsCause fault Memory = Unit {0}

-- a theory has a program and a specification
abbrev pub missing_fault : Declared → Option Fault
missing_fault D = if is_some D.program && is_some D.specification then None else Some program

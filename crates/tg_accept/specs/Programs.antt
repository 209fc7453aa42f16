-- The program and the specification: what their declarations mean, and which of them are right.
use Rattle.std.specs.Prelude.{ℕ, true, false, ◌≡◌, List, [], ◌∷◌, reverse, length, Option, None, is_some, option_map, option_and_then, if◌then◌else◌}
use Rattle.std.specs.List.{list_any}
use Rattle.tg_model.specs.Tree.{Tree}
use Rattle.tg_model.specs.Types.{Ty, bool}
use Rattle.tg_model.specs.Theory.{Program}
use Rattle.tg_model.specs.TermTyping.{Typing, type_of}
use Rattle.tg_model.specs.Accepted.{AreDistinct}
use Rattle.tg_accept.specs.Declared.{Declared, theory}
use Rattle.tg_accept.specs.Kept.{names_of_types, names_of_values}
use Rattle.tg_accept.specs.Faults.{is_taken, from_one_to_eight, has_parameter}
use Rattle.tg_accept.specs.Meant.{AreMade}
use Rattle.tg_accept.specs.Resolved.{Resolved}
use Rattle.tg_accept.specs.ResolvedTyping.{IsTypingOf}
use Rattle.tg_accept.specs.Core.{core}
use Rattle.tg_accept.specs.Raw.{Name, RawType, RawTerm}
use Rattle.tg_accept.specs.Meaning.{each_meant, type_meant, type_variables, Scope, resolve}
use Rattle.tg_accept.specs.Equations.{numbered_from}
use Rattle.tg_accept.specs.Functions.{split_last}
use Rattle.tg_accept.specs.Cases.{AreCasesShaped}
use Rattle.tg_accept.specs.Uses.{EachProgramCall, variables_on}

-- ---- the program

abbrev pub program_meant : Declared → Name → List RawType → Option Program
program_meant D x ts =
    if is_taken x (names_of_values D) then None
    else option_map (λ (p : List Ty × Ty). record { name = x; inputs = p.0; answer = p.1 })
    (option_and_then split_last (each_meant (type_meant (type_variables ts) (names_of_types D)) ts))

-- `params` is the number of type variables: that there are any is told later
abbrev pub IsProgramMade : Declared → ℕ → Program → Type 0
IsProgramMade D params p = AreMade (theory [] D) params (p.answer ∷ p.inputs)

pub record IsProgramFit (D : Declared) (p : Program) : Type 0 where
  -- it is the only one
  pub first : is_some D.program ≡ false
  pub inputs : from_one_to_eight (length p.inputs) ≡ true
  -- no type variable stands in its type
  pub closed : list_any has_parameter (p.answer ∷ p.inputs) ≡ false

-- ---- the specification

-- there is a program, and a variable for each of its inputs
pub record IsForProgram (D : Declared) (xs : List Name) : Type 0 where
  pub program : is_some D.program ≡ true
  pub variables : length xs ≡ length (theory [] D).program.inputs

-- the variables stand for the inputs, of two with one name the later one
abbrev pub specification_scope : Declared → List Name → Scope
specification_scope D xs = record { declared = D; own = []; is_recursive = false; variables = reverse (numbered_from 1 xs); in_certificate = false }

-- no variable may have a declared name
abbrev pub specification_meant : Declared → List Name → RawTerm → Option Resolved
specification_meant D xs t = if list_any (λ x. is_taken x (names_of_values D)) xs then None else resolve (specification_scope D xs) [] t

-- a typing at bool, where the variables have the types of the inputs
abbrev pub IsSpecificationTyping : Declared → Resolved → Typing → Type 0
IsSpecificationTyping D t d = IsTypingOf (theory [] D) None [] (theory [] D).program.inputs [] t d × (type_of d ≡ bool)

-- the core term
abbrev pub whole_specification : Declared → Resolved → Tree
whole_specification D t = core (theory [] D) 0 t

pub record IsSpecificationShaped (D : Declared) (xs : List Name) (t : Resolved) : Type 0 where
  -- no variable repeats
  pub distinct : AreDistinct xs
  pub cases : AreCasesShaped (theory [] D) t

pub record IsSpecificationFit (D : Declared) (t : Resolved) : Type 0 where
  -- it is the only one
  pub first : is_some D.specification ≡ false
  -- each program call has just the variables for its arguments, in order
  pub calls : EachProgramCall (λ ts. ts ≡ variables_on 1 (length (theory [] D).program.inputs)) t

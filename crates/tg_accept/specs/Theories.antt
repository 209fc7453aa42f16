-- Which theories are accepted, what theory each of them is, and where and how each other one is refused.
use Rattle.std.specs.Prelude.{ℕ, suc, true, false, ◌≡◌, ◌≤◌, ◌⊎◌, Bool, List, [], ◌∷◌, length, Option, Some}
use Rattle.std.specs.Option.{option_map_or}
use Rattle.tg_model.specs.Tree.{Tree}
use Rattle.tg_model.specs.Theory.{Theory, Datatype, Program}
use Rattle.tg_accept.specs.Declared.{Declared, theory, with_datatype, with_function, with_program, with_specification}
use Rattle.tg_accept.specs.Meant.{IsDatatypeMeant}
use Rattle.tg_accept.specs.Resolved.{Resolved}
use Rattle.tg_accept.specs.Raw.{Name, RawType, RawTerm, RawEquation, RawDeclaration, datatype, primrec, definition, program, specification, nodes}
use Rattle.tg_accept.specs.Checks as checks
use Rattle.tg_accept.specs.Checks.{Kind, term_size, name, typing, ambiguous, shape, Check, check, First, Pass, Where, Exists, Each}
use Rattle.tg_accept.specs.Typings.{HasTyping, HasOneTyping, HasTwoTypings}
use Rattle.tg_accept.specs.Meaning.{type_variables}
use Rattle.tg_accept.specs.Datatypes.{datatype_meant, IsDatatypeShaped}
use Rattle.tg_accept.specs.Functions.{Meant, function_meant, IsTypable, HasOneTypingEach, HasTwoTypingsSomewhere, IsFunctionShaped, NamesNoProgram, whole_function}
use Rattle.tg_accept.specs.Programs.{program_meant, IsProgramMade, IsProgramFit, IsForProgram, specification_meant, IsSpecificationTyping, whole_specification, IsSpecificationShaped, IsSpecificationFit}

-- the greatest number of nodes of a term
abbrev pub most_nodes : ℕ
most_nodes = 100000

abbrev pub IsSmall : RawTerm → Type 0
IsSmall t = nodes t ≤ most_nodes

abbrev pub datatype_checks : Declared → List Name → Option Datatype → List Check
datatype_checks D params o =
    check name (Exists o) ∷ check typing (Where o (IsDatatypeMeant D)) ∷ check shape (Where o (IsDatatypeShaped D params)) ∷ []

abbrev pub function_checks : Declared → Bool → List RawEquation → Option Meant → List Check
function_checks D is_recursive es o =
    check term_size (Each (λ (e : RawEquation). IsSmall e.body) es) ∷ check name (Exists o) ∷ check typing (Where o (IsTypable D is_recursive))
    ∷ record { kind = ambiguous; fault = Where o (HasTwoTypingsSomewhere D is_recursive); right = Where o (HasOneTypingEach D is_recursive) }
    ∷ check shape (Where o (IsFunctionShaped D is_recursive)) ∷ check checks.program (Where o NamesNoProgram) ∷ []

abbrev pub program_checks : Declared → List RawType → Option Program → List Check
program_checks D ts o =
    check name (Exists o) ∷ check typing (Where o (IsProgramMade D (length (type_variables ts)))) ∷ check checks.program (Where o (IsProgramFit D)) ∷ []

-- what is missing, or variables other in number than the inputs, is found before words are looked up
abbrev pub specification_checks : Declared → List Name → RawTerm → Option Resolved → List Check
specification_checks D xs body o =
    check term_size (IsSmall body) ∷ check checks.program (IsForProgram D xs) ∷ check name (Exists o)
    ∷ check typing (Where o (λ t. HasTyping (IsSpecificationTyping D t)))
    ∷ record {
      kind = ambiguous;
      fault = Where o (λ t. HasTwoTypings (IsSpecificationTyping D t));
      right = Where o (λ t. HasOneTyping (IsSpecificationTyping D t));
    }
    ∷ check shape (Where o (IsSpecificationShaped D xs)) ∷ check checks.program (Where o (IsSpecificationFit D)) ∷ []

abbrev pub checks_of : Declared → RawDeclaration → List Check
checks_of D (datatype x params cs) = datatype_checks D params (datatype_meant D x params cs)
checks_of D (primrec x ts es) = function_checks D true es (function_meant D x true ts es)
checks_of D (definition x ts es) = function_checks D false es (function_meant D x false ts es)
checks_of D (program x ts) = program_checks D ts (program_meant D x ts)
checks_of D (specification xs body) = specification_checks D xs body (specification_meant D xs body)

-- what is declared after a declaration
abbrev pub after : Declared → RawDeclaration → Declared
after D (datatype x params cs) = option_map_or (with_datatype D) (datatype_meant D x params cs) D
after D (primrec x ts es) = option_map_or (λ m. with_function D (whole_function D true m)) (function_meant D x true ts es) D
after D (definition x ts es) = option_map_or (λ m. with_function D (whole_function D false m)) (function_meant D x false ts es) D
after D (program x ts) = option_map_or (with_program D) (program_meant D x ts) D
after D (specification xs body) = option_map_or (λ t. with_specification D (whole_specification D t)) (specification_meant D xs body) D

-- there are a program and a specification
pub record IsWhole (D : Declared) : Type 0 where
  pub program : Program
  pub specification : Tree
  pub has_program : D.program ≡ Some program
  pub has_specification : D.specification ≡ Some specification

-- The declarations, the first of which has the number `n`, are refused at declaration `place` for a fault of this kind: at the first
-- one that has a fault, and of the first kind that it has. A program or specification that is missing is found behind them all.
abbrev pub IsRefused : Declared → ℕ → List RawDeclaration → ℕ → Kind → Type 0
IsRefused D n [] place k = (¬ (IsWhole D)) × (place ≡ n) × (k ≡ checks.program)
IsRefused D n (x ∷ xs) place k =
    (First (checks_of D x) k × (place ≡ n)) ⊎ (Pass (checks_of D x) × IsRefused (after D x) (suc n) xs place k)

-- the declarations are accepted behind others, and `th` is the theory of this name that they make
abbrev pub IsTheoryOf : List ℕ → Declared → List RawDeclaration → Theory → Type 0
IsTheoryOf x D [] th = IsWhole D × (th ≡ theory x D)
IsTheoryOf x D (y ∷ ys) th = Pass (checks_of D y) × IsTheoryOf x (after D y) ys th

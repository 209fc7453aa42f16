-- The theory of an accepted text is an accepted theory.
use Rattle.std.proofs.Common.{◌≡◌, Bool, true, false, List, [], ◌∷◌, length, Option, Some, None, refl, sym, subst}
use Rattle.std.specs.Option.{option_map_or}
use Rattle.tg_model.specs.Theory.{Theory, Datatype, Program}
use Rattle.tg_model.specs.Accepted.{IsAccepted}
use Rattle.tg_accept.specs.Declared.{Declared, nothing, with_datatype, with_function, with_program, with_specification}
use Rattle.tg_accept.specs.Kept.{IsKept}
use Rattle.tg_accept.specs.Faults.{Fault, name, shape, program}
use Rattle.tg_accept.specs.Resolved.{Resolved}
use Rattle.tg_accept.specs.Raw as raw
use Rattle.tg_accept.specs.Raw.{Name, RawType, RawTerm, RawConstructor, RawEquation, RawDeclaration}
use Rattle.tg_accept.specs.Checks.{Pass}
use Rattle.tg_accept.specs.Meaning.{type_variables}
use Rattle.tg_accept.specs.Datatypes.{datatype_meant}
use Rattle.tg_accept.specs.Functions.{Meant, function_meant, whole_function, IsFunctionShaped}
use Rattle.tg_accept.specs.Programs.{program_meant, specification_meant, whole_specification}
use Rattle.tg_accept.specs.Theories.{datatype_checks, function_checks, program_checks, specification_checks, after, IsTheoryOf}
use Rattle.tg_accept.specs.MeantLaws.{Tells, IsFunctionWritten}
use Rattle.tg_accept.specs.AcceptedLaws.{KeptAfter, TheoryIsAccepted}
use Rattle.tg_accept.proofs.KeptTheories.{nothing_is_kept, datatypes_keep, functions_keep, programs_keep, specifications_keep, whole_is_accepted}
use Rattle.tg_accept.proofs.FunctionMeanings.{function_is_meant, program_is_meant, specification_is_meant}
use Rattle.tg_accept.proofs.Told.{datatype_told, function_told, program_told, specification_told}

-- where all checks are right the builder has no fault to tell
no_fault : (o : Option Fault) (Shaped Fit : Type 0) → Tells o Shaped Fit → Shaped → Fit → o ≡ None
no_fault None Shaped Fit t s f = refl
no_fault (Some (name x)) Shaped Fit t s f = absurd t
no_fault (Some shape) Shaped Fit t s f = absurd (t s)
no_fault (Some program) Shaped Fit t s f = absurd (t.1 f)

module _ (D : Declared) (kept : IsKept D) where
  kept_datatype : (x : Name) (params : List Name) (cs : List RawConstructor) (o : Option Datatype) → datatype_meant D x params cs ≡ o
      → Pass (datatype_checks D params o) → IsKept (option_map_or (with_datatype D) o D)
  kept_datatype x params cs None e p = absurd p.0
  kept_datatype x params cs (Some m) e p =
      let s = p.1.1.0 in datatypes_keep D m kept p.1.0 (no_fault _ _ _ (datatype_told D x params cs m e s.parameters) s tt)

  written : (r : Bool) (m : Meant) → IsFunctionShaped D r m → IsFunctionWritten D r m
  written true m s = s.written
  written false m s = s

  kept_function : (x : Name) (r : Bool) (ts : List RawType) (es : List RawEquation) (o : Option Meant) → function_meant D x r ts es ≡ o
      → Pass (function_checks D r es o) → IsKept (option_map_or (λ m. with_function D (whole_function D r m)) o D)
  kept_function x r ts es None e p = absurd p.1.0
  kept_function x r ts es (Some m) e p =
      let s = p.1.1.1.1.0 in
      let w = written r m s in
      functions_keep D (whole_function D r m) kept (function_is_meant D r m p.1.1.0 w)
      (no_fault _ _ _ (function_told D x r ts es m e p.1.1.0 w) s p.1.1.1.1.1.0)

  kept_program : (x : Name) (ts : List RawType) (o : Option Program) → program_meant D x ts ≡ o
      → Pass (program_checks D ts o) → IsKept (option_map_or (with_program D) o D)
  kept_program x ts None e p = absurd p.0
  kept_program x ts (Some m) e p =
      programs_keep D m kept (program_is_meant D (length (type_variables ts)) m p.1.0) (no_fault _ _ _ (program_told D x ts m e) tt p.1.1.0)

  kept_specification : (xs : List Name) (body : RawTerm) (o : Option Resolved) → specification_meant D xs body ≡ o
      → Pass (specification_checks D xs body o) → IsKept (option_map_or (λ t. with_specification D (whole_specification D t)) o D)
  kept_specification xs body None e p = absurd p.1.1.0
  kept_specification xs body (Some t) e p =
      specifications_keep D (whole_specification D t) kept (specification_is_meant D xs t p.1.1.1.0 p.1.1.1.1.1.0)
      (no_fault _ _ _ (specification_told D xs t p.1.0 p.1.1.1.0 p.1.1.1.1.1.0) tt p.1.1.1.1.1.1.0)

pub kept_after : KeptAfter
kept_after D (raw.datatype x params cs) kept p = kept_datatype D kept x params cs (datatype_meant D x params cs) refl p
kept_after D (raw.primrec x ts es) kept p = kept_function D kept x true ts es (function_meant D x true ts es) refl p
kept_after D (raw.definition x ts es) kept p = kept_function D kept x false ts es (function_meant D x false ts es) refl p
kept_after D (raw.program x ts) kept p = kept_program D kept x ts (program_meant D x ts) refl p
kept_after D (raw.specification xs body) kept p = kept_specification D kept xs body (specification_meant D xs body) refl p

accepted_after : (x : Name) (D : Declared) (xs : List RawDeclaration) (th : Theory) → IsKept D → IsTheoryOf x D xs th → IsAccepted th
accepted_after x D [] th kept is =
    subst IsAccepted (sym is.1) (whole_is_accepted x D is.0.program is.0.specification kept is.0.has_program is.0.has_specification)
accepted_after x D (y ∷ ys) th kept is = accepted_after x (after D y) ys th (kept_after D y kept is.0) is.1

pub theory_is_accepted : TheoryIsAccepted
theory_is_accepted x xs th is = accepted_after x nothing xs th nothing_is_kept is

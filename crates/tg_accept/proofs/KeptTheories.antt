-- The laws of theories that grow.
use Rattle.std.proofs.Common.{ℕ, zero, suc, ◌≡◌, [], Some}
use Rattle.std.specs.Prelude.{slice_get}
use Rattle.tg_model.specs.Theory.{numbered}
use Rattle.tg_accept.specs.KeptLaws.{NothingIsKept, KeptWithDatatype, KeptWithFunction, KeptWithProgram, KeptWithSpecification, WholeIsAccepted}
use Rattle.tg_accept.proofs.KeptWithDatatype.{kept_with_datatype}
use Rattle.tg_accept.proofs.KeptWithFunction.{kept_with_function}
use Rattle.tg_accept.proofs.KeptWithProgram.{kept_with_program, kept_with_specification, whole_theory}

pub nothing_is_kept : NothingIsKept
nothing_is_kept = record {
  types_differ = tt;
  names_differ = tt;
  datatypes = λ d x e. absurd (no_item d e);
  functions = λ n x e. absurd (no_number n e);
  program = λ p e. cc e;
  specification = λ t e. cc e;
}
  where
    no_item : (d : ℕ) {A : Type 0} {x : A} → slice_get [] d ≡ Some x → ⊥
    no_item d e = cc e

    no_number : (n : ℕ) {A : Type 0} {x : A} → numbered [] n ≡ Some x → ⊥
    no_number zero e = cc e
    no_number (suc n) e = cc e

pub datatypes_keep : KeptWithDatatype
datatypes_keep D x kept meant fine = kept_with_datatype D x kept meant fine

pub functions_keep : KeptWithFunction
functions_keep D x kept meant fine = kept_with_function D x kept meant fine

pub programs_keep : KeptWithProgram
programs_keep D p kept meant fine = kept_with_program D p kept meant fine

pub specifications_keep : KeptWithSpecification
specifications_keep D t kept meant fine = kept_with_specification D t kept meant fine

pub whole_is_accepted : WholeIsAccepted
whole_is_accepted name D p t kept has_program has_specification = whole_theory name D p t kept has_program has_specification

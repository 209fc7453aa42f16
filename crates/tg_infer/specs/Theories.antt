-- Which theories are accepted, and why others are refused.
use Rattle.std.specs.Prelude.{ℕ, List}
use Rattle.tg_accept.specs.Checks.{term_size, name, typing, ambiguous, shape, program}
use Rattle.tg_accept.specs.Declared.{nothing}
use Rattle.tg_accept.specs.Raw.{RawDeclaration}
use Rattle.tg_accept.specs.Theories.{IsRefused}
use Rattle.tg_theory.specs.declared.errors.BuildErr.{BuildErr}
use Rattle.tg_theory.specs.declared.errors.BuildErr.TheVariants as builds
use Rattle.tg_infer.specs.declared.refusals.Kind.TheVariants as kinds
use Rattle.tg_infer.specs.declared.errors.TheoryErr.{TheoryErr}
use Rattle.tg_infer.specs.declared.errors.TheoryErr.TheVariants as errors
use Rattle.tg_infer.specs.declared.refusals.Refusal.{Refusal}
use Rattle.tg_infer.specs.declared.refusals.Refusal.TheVariants as refusals

abbrev pub refused_at : Refusal → ℕ → TheoryErr
refused_at (refusals.Fault kinds.TermSize) n = errors.TermSize n
refused_at (refusals.Fault kinds.Name) n = errors.Name n
refused_at (refusals.Fault kinds.Typing) n = errors.Typing n
refused_at (refusals.Fault kinds.Ambiguous) n = errors.Ambiguous n
refused_at (refusals.Fault kinds.Shape) n = errors.Shape n
refused_at (refusals.Fault kinds.Program) n = errors.Program n
refused_at refusals.Memory n = errors.Memory

-- what is missing is told behind all declarations
abbrev pub missing_at : BuildErr → ℕ → TheoryErr
missing_at (builds.Name x) n = errors.Program n
missing_at builds.Shape n = errors.Program n
missing_at builds.Program n = errors.Program n
missing_at builds.Memory n = errors.Memory

-- the declarations are refused at this place for a fault of this kind; want of memory says nothing
abbrev pub IsRefusal : List RawDeclaration → TheoryErr → Type 0
IsRefusal xs (errors.TermSize place) = IsRefused nothing 1 xs place term_size
IsRefusal xs (errors.Name place) = IsRefused nothing 1 xs place name
IsRefusal xs (errors.Typing place) = IsRefused nothing 1 xs place typing
IsRefusal xs (errors.Ambiguous place) = IsRefused nothing 1 xs place ambiguous
IsRefusal xs (errors.Shape place) = IsRefused nothing 1 xs place shape
IsRefusal xs (errors.Program place) = IsRefused nothing 1 xs place program
IsRefusal xs errors.Memory = Unit {0}

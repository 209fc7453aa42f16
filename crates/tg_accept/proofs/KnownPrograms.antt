-- Datatypes, programs and specifications that are refused, with those beside them that are accepted.
use Rattle.std.proofs.Common.{ℕ, ◌≡◌, Bool, true, false, List, [], ◌∷◌, Some, None, refl, ap, inl, inr, arith}
use Rattle.std.specs.Prelude.{codes, is_some, option_map}
use Rattle.tg_model.specs.Types.{nat, bool, applied, tys}
use Rattle.tg_model.specs.Theory.{Theory, Datatype}
use Rattle.tg_model.specs.Accepted.{IsAccepted}
use Rattle.tg_model.specs.TermTyping.{Typing, leaf, instanced, compound, branching, binding}
use Rattle.tg_accept.specs.Declared.{Declared, nothing, theory}
use Rattle.tg_accept.specs.Faults.{each_put}
use Rattle.tg_accept.specs.Resolved as resolved
use Rattle.tg_accept.specs.Resolved.{Resolved}
use Rattle.tg_accept.specs.ResolvedTyping.{IsTypingOf}
use Rattle.tg_accept.specs.Raw as raw
use Rattle.tg_accept.specs.Raw.{RawType, natural_type, type_variable, type_word, RawTerm, RawDeclaration}
use Rattle.tg_accept.specs.Checks as checks
use Rattle.tg_accept.specs.Checks.{First, Pass, shape}
use Rattle.tg_accept.specs.Typings.{HasOneTyping}
use Rattle.tg_accept.specs.Functions.{function_meant}
use Rattle.tg_accept.specs.Programs.{specification_meant, whole_specification, IsSpecificationTyping}
use Rattle.tg_accept.specs.Uses.{EachProgramCall, variables_on}
use Rattle.tg_accept.specs.Theories.{checks_of, after, IsRefused, IsTheoryOf}
use Rattle.tg_accept.proofs.AcceptedTheories.{theory_is_accepted}
use Rattle.tg_accept.proofs.KnownTexts.{one, word, equals, lets, constructor_of, x, lists, lists_pass, list_of, IsRefusedNext, next}

-- ---- datatypes

-- datatype ('a, 'a) t = A;
abbrev repeated : RawDeclaration
repeated = raw.datatype (codes "t") (codes "'a" ∷ codes "'a" ∷ []) (constructor_of (codes "A") [] ∷ [])

parameter_repeats : IsRefusedNext repeated shape
parameter_repeats = next repeated shape (inr (tt, inr ((tt, tt), inl ((λ s. s.parameters.0 (inl refl)), refl))))

-- datatype 'a t = A | B t; the datatype is declared in its own arguments, with its number of parameters
abbrev unapplied : RawDeclaration
unapplied =
    raw.datatype (codes "t") (codes "'a" ∷ []) (constructor_of (codes "A") [] ∷ constructor_of (codes "B") (type_word (codes "t") raw.no_types ∷ []) ∷ [])

without_argument : IsRefusedNext unapplied checks.typing
without_argument = next unapplied checks.typing (inr (tt, inl ((λ m. missing m.1.0.0.0.1), refl)))
  where
    unfilled : Datatype
    unfilled = record {
      name = codes "t";
      parameters = 1;
      constructors = record { name = codes "A"; arguments = [] } ∷ record { name = codes "B"; arguments = applied 2 (tys []) ∷ [] } ∷ [];
    }

    missing : (y : Datatype) × (Some unfilled ≡ Some y) × (◌≡◌ {A = ℕ} 0 y.parameters) → ⊥
    missing h = let q : unfilled ≡ h.0 = (let z = h.1 in cc z) in let r : 1 ≡ h.0.parameters = ap (λ (d : Datatype). d.parameters) q in let z = h.2 in omega (arith, r, z)

-- datatype t = B | A (t list);
abbrev nested : RawDeclaration
nested =
    raw.datatype (codes "t") [] (constructor_of (codes "B") [] ∷ constructor_of (codes "A") (list_of (type_word (codes "t") raw.no_types) ∷ []) ∷ [])

within_a_list : IsRefusedNext nested shape
within_a_list =
    next nested shape (inr (tt, inr ((tt, ((((omega arith, (_, refl, refl)), (((omega arith, (_, refl, refl)), tt), tt)), tt), tt)), inl ((λ s. let q = s.arguments in cc q), refl))))

-- datatype t = A t;
abbrev endless : RawDeclaration
endless = raw.datatype (codes "t") [] (constructor_of (codes "A") (type_word (codes "t") raw.no_types ∷ []) ∷ [])

no_base : IsRefusedNext endless shape
no_base = next endless shape (inr (tt, inr (((((omega arith, (_, refl, refl)), tt), tt), tt), inl ((λ s. let q = s.base in cc q), refl))))

-- ---- the program

-- a theory of one datatype alone
abbrev alone : List RawDeclaration
alone = lists ∷ []

program_missing : IsRefused nothing 1 alone 2 checks.program
program_missing = inr (lists_pass, ((λ w. let q = w.has_program in cc q), refl, refl))

-- program put :: 'a => nat;
abbrev open_program : RawDeclaration
open_program = raw.program (codes "put") (type_variable (codes "'a") ∷ natural_type ∷ [])

open_input : IsRefusedNext open_program checks.program
open_input = next open_program checks.program (inr (tt, inr ((tt, ((omega arith, omega arith), tt)), inl ((λ s. let q = s.closed in cc q), refl))))

-- program put :: 'a set => nat; a name comes first
abbrev open_unknown : RawDeclaration
open_unknown = raw.program (codes "put") (type_word (codes "set") (raw.more_types (type_variable (codes "'a")) raw.no_types) ∷ natural_type ∷ [])

name_first : IsRefusedNext open_unknown checks.name
name_first = next open_unknown checks.name (inl ((λ h. h), refl))

-- program put :: nat;
abbrev constant_program : RawDeclaration
constant_program = raw.program (codes "put") (natural_type ∷ [])

no_input : IsRefusedNext constant_program checks.program
no_input = next constant_program checks.program (inr (tt, inr ((tt, tt), inl ((λ s. let q = s.inputs in cc q), refl))))

-- ---- the specification

-- program put :: nat => nat; and spec x . True; and another specification
abbrev pub put_program : RawDeclaration
put_program = raw.program (codes "put") (natural_type ∷ natural_type ∷ [])

abbrev pub always : RawDeclaration
always = raw.specification (x ∷ []) (raw.truth true)

abbrev pub programmed : Declared
programmed = after nothing put_program

abbrev pub specified : Declared
specified = after programmed always

pub program_passes : Pass (checks_of nothing put_program)
program_passes = (tt, ((tt, (tt, tt)), (record { first = refl; inputs = refl; closed = refl }, tt)))

truth_typed : HasOneTyping (IsSpecificationTyping programmed (resolved.truth true))
truth_typed = record { typing = leaf bool; is = (refl, refl); only = λ d is. alone d is.0 }
  where
    alone : (d : Typing) → IsTypingOf (theory [] programmed) None [] (nat ∷ []) [] (resolved.truth true) d → d ≡ leaf bool
    alone (leaf t) is = ap leaf is
    alone (instanced us t ds) is = absurd is
    alone (compound t ds) is = absurd is
    alone (branching us t d arms) is = absurd is
    alone (binding u t d e) is = absurd is

pub always_passes : Pass (checks_of programmed always)
always_passes = (
  omega arith,
  (
    record { program = refl; variables = refl },
    (
      tt,
      (
        record { typing = truth_typed.typing; is = truth_typed.is },
        (truth_typed, (record { distinct = ((λ h. h), tt); cases = record { whole = tt; once = tt; distinct = tt } }, (record { first = refl; calls = tt }, tt))),
      ),
    ),
  ),
)

abbrev small_theory : Theory
small_theory = theory (codes "T") specified

-- a specification needs no program call
accepted : IsTheoryOf (codes "T") nothing (put_program ∷ always ∷ []) small_theory
accepted = (program_passes, (always_passes, (record { program = _; specification = _; has_program = refl; has_specification = refl }, refl)))

accepted_in_the_model : IsAccepted small_theory
accepted_in_the_model = theory_is_accepted (codes "T") (put_program ∷ always ∷ []) small_theory accepted

-- a second specification with an unknown word: the name comes before that it is a second one
abbrev unknown : RawDeclaration
unknown = raw.specification (x ∷ []) (word (codes "y"))

second_unknown : IsRefused nothing 1 (put_program ∷ always ∷ unknown ∷ []) 3 checks.name
second_unknown =
    inr (program_passes, inr (always_passes, inl (inr (omega arith, inr (record { program = refl; variables = refl }, inl ((λ h. h), refl))), refl)))

-- without a program, or with a variable too few, that is found before words are looked up
no_program_yet : IsRefused nothing 1 (unknown ∷ []) 1 checks.program
no_program_yet = inl (inr (omega arith, inl ((λ s. let q = s.program in cc q), refl)), refl)

abbrev no_variables : RawDeclaration
no_variables = raw.specification [] (word (codes "y"))

variable_missing : IsRefused nothing 1 (put_program ∷ no_variables ∷ []) 2 checks.program
variable_missing = inr (program_passes, inl (inr (omega arith, inl ((λ s. let q = s.variables in omega (arith, q)), refl)), refl))

-- a second specification of the right form
second_specification : IsRefused nothing 1 (put_program ∷ always ∷ always ∷ []) 3 checks.program
second_specification =
    let a = always_passes in
    inr (
      program_passes,
      inr (
        a,
        inl (
          inr (
            omega arith,
            inr (
              record { program = refl; variables = refl },
              inr (
                tt,
                inr (
                  a.1.1.1.0,
                  inr (
                    a.1.1.1.1.0,
                    inr (
                      record { distinct = ((λ h. h), tt); cases = record { whole = tt; once = tt; distinct = tt } },
                      inl ((λ s. let q = s.first in cc q), refl),
                    ),
                  ),
                ),
              ),
            ),
          ),
          refl,
        ),
      ),
    )

-- whether program calls are on the variables in order
abbrev Calls : RawTerm → Bool → Type 0
Calls t b = option_map (λ r. each_put 1 (whole_specification programmed r)) (specification_meant programmed (x ∷ []) t) ≡ Some b

-- put x = 0; put 0 = 0; let x = x in put x = 0, where the variable is hidden
on_variables : Calls (equals (raw.word (codes "put") (one (word x))) (raw.number 0)) true
on_variables = refl

on_number : Calls (equals (raw.word (codes "put") (one (raw.number 0))) (raw.number 0)) false
on_number = refl

on_hidden : Calls (lets x (word x) (equals (raw.word (codes "put") (one (word x))) (raw.number 0))) false
on_hidden = refl

-- the same of the resolved terms
abbrev OnVariables : Resolved → Type 0
OnVariables t = EachProgramCall (λ ts. ts ≡ variables_on 1 1) t

right_call : OnVariables (resolved.put (resolved.more (resolved.free 1) resolved.none))
right_call = refl

call_on_number : ¬ (OnVariables (resolved.put (resolved.more (resolved.literal 0) resolved.none)))
call_on_number h = cc h

call_on_hidden : ¬ (OnVariables (resolved.bind (resolved.free 1) (resolved.put (resolved.more (resolved.bound 0) resolved.none))))
call_on_hidden h = let q = h.1 in cc q

call_on_more : ¬ (OnVariables (resolved.put (resolved.more (resolved.free 1) (resolved.more (resolved.free 2) resolved.none))))
call_on_more h = cc h

-- a definition that names the program is refused for that, after its types and its shape; before the program is declared the word is
-- unknown
program_in_definition : (is_some (function_meant programmed (codes "f") false (natural_type ∷ natural_type ∷ [])
    (record { head = codes "f"; patterns = raw.bare x ∷ []; body = raw.word (codes "put") (one (word x)) } ∷ [])) ≡ true)
    × (function_meant nothing (codes "f") false (natural_type ∷ natural_type ∷ [])
    (record { head = codes "f"; patterns = raw.bare x ∷ []; body = raw.word (codes "put") (one (word x)) } ∷ []) ≡ None)
program_in_definition = (refl, refl)

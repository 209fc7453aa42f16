-- Texts with more than one fault, or with a fault that only a typing shows: each is refused for the first kind of them.
use Rattle.std.proofs.Common.{ℕ, ◌≡◌, List, [], ◌∷◌, ◌++◌, Some, None, refl, ◌∙◌, ap, inl, inr, arith}
use Rattle.std.specs.Prelude.{codes}
use Rattle.tg_model.specs.Types.{Ty, nat, bool, applied, tys}
use Rattle.tg_model.specs.Theory.{Theory, Function, numbered}
use Rattle.tg_model.specs.TermTyping.{Typing, leaf, instanced, compound, branching, binding, type_of}
use Rattle.tg_model.specs.TermTyping as typing
use Rattle.tg_accept.specs.Declared.{Declared, nothing, theory}
use Rattle.tg_accept.specs.Resolved as resolved
use Rattle.tg_accept.specs.Resolved.{of}
use Rattle.tg_accept.specs.ResolvedTyping.{IsTypingOf}
use Rattle.tg_accept.specs.Raw as raw
use Rattle.tg_accept.specs.Raw.{natural_type, truth_type, bare, RawEquation, RawDeclaration}
use Rattle.tg_accept.specs.Checks as checks
use Rattle.tg_accept.specs.Checks.{ambiguous}
use Rattle.tg_accept.specs.Typings.{HasTyping, HasOneTyping}
use Rattle.tg_accept.specs.Equations.{variable, IsEquationTyping}
use Rattle.tg_accept.specs.Functions.{unsaid}
use Rattle.tg_accept.specs.Theories.{checks_of, after, IsRefused, IsTheoryOf}
use Rattle.tg_accept.proofs.KnownTexts.{one, word, lets, equation, f, x, lists, listed, IsRefusedNext, next, on_numbers}
use Rattle.tg_accept.proofs.KnownPrograms.{put_program, always, programmed, program_passes, always_passes}

abbrev of_type : List Ty → Ty → Function
of_type ts t = record { name = f; parameters = 0; arguments = ts; answer = t; body = unsaid }

-- ---- of two variables of one name the later one is meant: definition f :: nat => bool => nat where f x x = x; has no typing, which
-- comes before the shape

abbrev repeated : RawDeclaration
repeated = raw.definition f (natural_type ∷ truth_type ∷ natural_type ∷ []) (equation f (bare x ∷ bare x ∷ []) (word x) ∷ [])

of_variable : (th : Theory) (vars : List Ty) (n : ℕ) (d : Typing) → IsTypingOf th None [] vars [] (resolved.free n) d → numbered vars n ≡ Some (type_of d)
of_variable th vars n (leaf t) h = h
of_variable th vars n (instanced us t ds) h = absurd h
of_variable th vars n (compound t ds) h = absurd h
of_variable th vars n (branching us t d arms) h = absurd h
of_variable th vars n (binding u t d e) h = absurd h

typing_before_shape : IsRefusedNext repeated checks.typing
typing_before_shape = next repeated checks.typing (inr ((omega arith, tt), inr (tt, inl ((λ t. wrong t.equations.0), refl))))
  where
    wrong : HasTyping (IsEquationTyping (theory [] listed) None (of_type (nat ∷ bool ∷ []) nat)
        (record { head = f; patterns = variable x ∷ variable x ∷ []; body = resolved.free 2 })) → ⊥
    wrong t =
        let l : List Ty × List Ty = t.is.0 in
        let left : (nat ∷ bool ∷ [], []) ≡ l = (let q = t.is.1 in cc q) in
        let here : numbered (l.0 ++ l.1) 2 ≡ Some (type_of t.typing) = of_variable (theory [] listed) (l.0 ++ l.1) 2 t.typing t.is.2 in
        let there : Some bool ≡ Some nat = ap (λ (k : List Ty × List Ty). numbered (k.0 ++ k.1) 2) left ∙ (here ∙ ap Some t.is.3) in cc there

-- ---- the type of a binder counts: definition f :: nat => nat where f x = let y = Nil in x; has several typings

abbrev open_binder : RawEquation
open_binder = equation f (bare x ∷ []) (lets (codes "y") (word (codes "Nil")) (word x))

abbrev list_at : Ty → Ty
list_at t = applied 1 (tys (t ∷ []))

abbrev bound_at : Ty → Typing
bound_at t = binding (list_at t) nat (instanced (t ∷ []) (list_at t) typing.none) (leaf nat)

abbrev binder_type : Typing → Ty
binder_type (binding u t d e) = u
binder_type d = nat

ambiguous_binder : IsRefusedNext (on_numbers open_binder) ambiguous
ambiguous_binder =
    next (on_numbers open_binder) ambiguous (
    inr (
      (omega arith, tt),
      inr (
        tt,
        inr (
          record { types = (tt, (tt, tt)); equations = (record { typing = bound_at nat; is = right nat }, tt) },
          inl (inl (record { typing = bound_at nat; other = bound_at bool; is = right nat; other_is = right bool; differ = λ e. apart (ap binder_type e) }), refl),
        ),
      ),
    )
    )
  where
    right : (t : Ty) → IsEquationTyping (theory [] listed) None (of_type (nat ∷ []) nat)
        (record { head = f; patterns = variable x ∷ []; body = resolved.bind (resolved.con 1 resolved.none) (resolved.free 1) }) (bound_at t)
    right t = ((nat ∷ [], []), refl, ((_, refl, (_, refl, refl), refl, refl, tt), refl, refl, refl), refl)

    apart : list_at nat ≡ list_at bool → ⊥
    apart e = cc e

-- ---- a definition that names the program: program put :: nat => nat; definition f :: nat => nat where f x = put x;

abbrev through_program : RawDeclaration
through_program = raw.definition f (natural_type ∷ natural_type ∷ []) (equation f (bare x ∷ []) (raw.word (codes "put") (one (word x))) ∷ [])

abbrev Put : Typing → Type 0
Put d = IsEquationTyping (theory [] programmed) None (of_type (nat ∷ []) nat)
    (record { head = f; patterns = variable x ∷ []; body = resolved.put (resolved.more (resolved.free 1) resolved.none) }) d

abbrev put_typing : Typing
put_typing = compound nat (typing.more (leaf nat) typing.none)

put_typed : HasOneTyping Put
put_typed = record { typing = put_typing; is = ((nat ∷ [], []), refl, (refl, refl, (refl, tt)), refl); only = alone }
  where
    head_of : (t : Ty) → t ∷ [] ≡ nat ∷ [] → t ≡ nat
    head_of t e = cc e

    alone : (d : Typing) → Put d → d ≡ put_typing
    alone (compound t (typing.more (leaf u) typing.none)) is =
        let a : t ≡ nat = is.2.0 in
        let b : u ≡ nat = head_of u is.2.1 in λ i. compound (a i) (typing.more (leaf (b i)) typing.none)
    alone (compound t (typing.more (leaf u) (typing.more d ds))) is = absurd is.2.2.1
    alone (compound t (typing.more d ds)) is = absurd is.2.2.0
    alone (compound t typing.none) is = absurd is.2.2
    alone d is = absurd is.2

program_in_definition : IsRefused nothing 1 (put_program ∷ through_program ∷ []) 2 checks.program
program_in_definition =
    inr (
      program_passes,
      inl (
        inr (
          (omega arith, tt),
          inr (
            tt,
            inr (
              record { types = (tt, (tt, tt)); equations = (record { typing = put_typed.typing; is = put_typed.is }, tt) },
              inr (
                (put_typed, tt),
                inr (
                  record {
                    equations = (record { begins = refl; distinct = ((λ h. h), tt); cases = record { whole = (tt, tt); once = (tt, tt); distinct = (tt, tt) } }, tt);
                    one_equation = refl;
                    no_pattern = (refl, tt);
                  },
                  inl ((λ e. let q = e.0 in cc q), refl),
                ),
              ),
            ),
          ),
        ),
        refl,
      ),
    )

-- ---- declarations may stand behind the specification

abbrev first_two : Declared
first_two = after programmed always

lists_pass_behind : checks.Pass (checks_of first_two lists)
lists_pass_behind = (
  tt,
  (
    (tt, (((omega arith, omega arith), (((omega arith, (_, refl, refl)), ((omega arith, omega arith), tt)), tt)), tt)),
    (record { parameters = ((λ h. h), tt); arguments = refl; base = refl }, tt),
  ),
)

behind_specification : IsTheoryOf (codes "T") nothing (put_program ∷ always ∷ lists ∷ []) (theory (codes "T") (after first_two lists))
behind_specification =
    (program_passes, (always_passes, (lists_pass_behind, (record { program = _; specification = _; has_program = refl; has_specification = refl }, refl))))

-- both are missing: the place is behind all declarations
nothing_declared : IsRefused nothing 1 [] 1 checks.program
nothing_declared = ((λ w. let q = w.has_program in cc q), refl, refl)

-- Declarations of the specification.
use Rattle.std.proofs.Common.{ℕ, ◌≡◌, ◌↔◌, ◌≤◌, Bool, true, false, nat_eq, nat_lt, List, [], ◌∷◌, ◌++◌, length, map, reverse, Option, Some, None, refl, sym, ◌∙◌, ap, subst, inl, inr, arith, if◌then◌else◌}
use Rattle.std.specs.Prelude.{option_map, is_some, unwrap_or}
use Rattle.std.specs.Option.{option_map_or}
use Rattle.std.specs.List.{list_any}
use Rattle.std.proofs.lemmas.Bool.Decides.{eqb_tells}
use Rattle.std.proofs.lemmas.List.{length-map}
use Rattle.tg_types.specs.Types.{ty}
use Rattle.std.proofs.lemmas.Bool.{ltb-true, ltb-false}
use Rattle.tg_accept.specs.Checks as checks
use Rattle.tg_accept.specs.Checks.{First, Pass}
use Rattle.tg_accept.specs.Declared.{Declared, theory, no_program, with_specification}
use Rattle.tg_accept.specs.Equations.{numbered_from}
use Rattle.tg_accept.specs.Faults.{Fault, is_taken, specification_fault}
use Rattle.tg_accept.specs.Kept.{names_of_values}
use Rattle.tg_accept.specs.Meaning.{Scope, resolve}
use Rattle.tg_accept.specs.MeantLaws.{Tells}
use Rattle.tg_accept.specs.Meant.{IsSpecificationMeant}
use Rattle.tg_accept.specs.Programs.{IsForProgram, specification_scope, specification_meant, IsSpecificationTyping, whole_specification, IsSpecificationShaped, IsSpecificationFit}
use Rattle.tg_accept.specs.Raw as raw
use Rattle.tg_accept.specs.Raw.{Name, RawTerm, nodes}
use Rattle.tg_accept.specs.Resolved.{Resolved}
use Rattle.tg_accept.specs.Theories.{checks_of, specification_checks, after, IsSmall}
use Rattle.tg_accept.specs.Typings.{HasTyping, HasOneTyping, HasTwoTypings}
use Rattle.tg_accept.proofs.Told.{specification_told}
use Rattle.tg_accept.proofs.FunctionMeanings.{specification_is_meant}
use Rattle.tg_declarations.specs.View.{program}
use Rattle.tg_declarations.specs.declared.definitions.ProgDef.{ProgDef}
use Rattle.tg_theory.specs.declared.errors.BuildErr.{BuildErr}
use Rattle.tg_theory.specs.declared.errors.BuildErr.TheVariants as errors
use Rattle.tg_theory.specs.Causes.{IsCause}
use Rattle.tg_infer.specs.Causes.{refusal}
use Rattle.tg_infer.specs.Refused.{IsFirst, IsDeclared}
use Rattle.tg_infer.specs.Scopes.{AreSameVariables}
use Rattle.tg_infer.specs.Specifications.{HasInputs}
use Rattle.tg_infer.specs.declared.words.Words.{Words}
use Rattle.tg_infer.specs.Words.{AreWordsOf, values_in}
use Rattle.tg_infer.proofs.SameVariables.{same_resolve}
use Rattle.tg_infer.proofs.TypingLaws.{has_typing}
use Rattle.tg_infer.proofs.WordLaws.{same_values}

-- ---- what it means

pub taken_variable : (D : Declared) (w : Words) (xs : List Name) (t : RawTerm) → AreWordsOf w D → list_any (λ x. is_taken x (values_in w)) xs ≡ true
    → None ≡ specification_meant D xs t
taken_variable D w xs t h e =
    sym (ap (λ b. if b then None else resolve (specification_scope D xs) [] t) (ap (λ l. list_any (λ x. is_taken x l) xs) (sym (same_values w D h)) ∙ e))

pub free_variables : (D : Declared) (w : Words) (xs : List Name) (vs : List (List ℕ × ℕ)) (t : RawTerm) (o : Option Resolved) → AreWordsOf w D
    → list_any (λ x. is_taken x (values_in w)) xs ≡ false → AreSameVariables vs (reverse (numbered_from 1 xs) ++ [])
    → o ≡ resolve (record (specification_scope D xs) { variables = vs }) [] t → o ≡ specification_meant D xs t
free_variables D w xs vs t o h e s f =
    f ∙ same_resolve (specification_scope D xs) vs (reverse (numbered_from 1 xs)) (subst (AreSameVariables vs) (whole (reverse (numbered_from 1 xs))) s) [] t
    ∙ sym (ap (λ b. if b then None else resolve (specification_scope D xs) [] t) (ap (λ l. list_any (λ x. is_taken x l) xs) (sym (same_values w D h)) ∙ e))
  where
    whole : (ls : List (List ℕ × ℕ)) → ls ++ [] ≡ ls
    whole [] = refl
    whole (l ∷ ls) = ap (λ k. l ∷ k) (whole ls)

pub ruleset meaning = (taken_variable)

-- ---- its program

pub has_inputs : (D : Declared) (def : ProgDef) (count : ℕ) → Some (program def) ≡ D.program → (nat_eq (length def.inputs) count ≡ true) ↔ HasInputs D count
has_inputs D def count e = (
  (λ f. record { program = ap is_some (sym e); inputs = elim (eqb_tells (length def.inputs) count) [ inl p ↦ sym p.1 ∙ as_many | inr p ↦ (let q : false ≡ true = sym p.0 ∙ f in cc q) ] }),
  λ h. elim (eqb_tells (length def.inputs) count) [ inl p ↦ p.0 | inr p ↦ absurd (p.1 (sym (h.inputs ∙ sym as_many))) ],
)
  where
    as_many : length def.inputs ≡ length (theory [] D).program.inputs
    as_many = sym (length-map def.inputs ty) ∙ ap (λ o. length (unwrap_or o no_program).inputs) e

pub no_inputs : (D : Declared) (count : ℕ) → None ≡ D.program → (false ≡ true) ↔ HasInputs D count
no_inputs D count e = ((λ f. cc f), λ h. let q : false ≡ true = ap is_some e ∙ h.program in q)

pub ruleset programs = (has_inputs, no_inputs)

-- ---- what is wrong first

module _ (D : Declared) (xs : List Name) (t : RawTerm) where
  pub large_first : nat_lt 100000 (nodes t) ≡ true → First (checks_of D (raw.specification xs t)) checks.term_size
  large_first e = inl ((λ s. let low : nodes t ≤ 100000 = s in let high = ltb-true 100000 (nodes t) e in absurd (omega (arith, low, high))), refl)

  small : nat_lt 100000 (nodes t) ≡ false → IsSmall t
  small e = let k : nodes t ≤ 100000 = (let l = ltb-false 100000 (nodes t) e in omega (arith, l)) in k

  for_program : HasInputs D (length xs) → IsForProgram D xs
  for_program h = record { program = h.program; variables = h.inputs }

  pub no_program_first : nat_lt 100000 (nodes t) ≡ false → ¬ (HasInputs D (length xs)) → First (checks_of D (raw.specification xs t)) checks.program
  no_program_first e h = inr (small e, inl ((λ k. h (record { program = k.program; inputs = k.variables })), refl))

  pub misnamed_first : nat_lt 100000 (nodes t) ≡ false → HasInputs D (length xs) → None ≡ specification_meant D xs t
      → First (checks_of D (raw.specification xs t)) checks.name
  misnamed_first e p h =
      subst (λ o. First (specification_checks D xs t o) checks.name) h (inr (small e, inr (for_program p, inl ((λ z. z), refl))))

  module _ (m : Resolved) (e : nat_lt 100000 (nodes t) ≡ false) (p : HasInputs D (length xs)) (is : Some m ≡ specification_meant D xs t) where
    pub untyped_first : ¬ (HasTyping (IsSpecificationTyping D m)) → First (checks_of D (raw.specification xs t)) checks.typing
    untyped_first h = subst (λ o. First (specification_checks D xs t o) checks.typing) is (inr (small e, inr (for_program p, inr (tt, inl (h, refl)))))

    pub ambiguous_first : HasTwoTypings (IsSpecificationTyping D m) → First (checks_of D (raw.specification xs t)) checks.ambiguous
    ambiguous_first h =
        let one : HasTyping (IsSpecificationTyping D m) = record { typing = h.typing; is = h.is } in
        subst (λ o. First (specification_checks D xs t o) checks.ambiguous) is
        (inr (small e, inr (for_program p, inr (tt, inr (one, inl (h, refl))))))

    pub unshaped_first : HasOneTyping (IsSpecificationTyping D m) → ¬ (IsSpecificationShaped D xs m) → First (checks_of D (raw.specification xs t)) checks.shape
    unshaped_first o h =
        subst (λ q. First (specification_checks D xs t q) checks.shape) is
        (inr (small e, inr (for_program p, inr (tt, inr (has_typing (IsSpecificationTyping D m) o, inr (o, inl (h, refl)))))))

    told : HasOneTyping (IsSpecificationTyping D m) → IsSpecificationShaped D xs m
        → Tells (specification_fault D (whole_specification D m)) (Unit {0}) (IsSpecificationFit D m)
    told o s = specification_told D xs m (for_program p) (has_typing (IsSpecificationTyping D m) o) s

    pub specification_cause : HasOneTyping (IsSpecificationTyping D m) → IsSpecificationShaped D xs m → (error : BuildErr)
        → IsCause (specification_fault D (whole_specification D m)) error → IsFirst (checks_of D (raw.specification xs t)) (refusal error)
    specification_cause o s error c = subst (λ q. IsFirst (specification_checks D xs t q) (refusal error)) is (go error c (told o s))
      where
        go : (error : BuildErr) → IsCause (specification_fault D (whole_specification D m)) error
            → Tells (specification_fault D (whole_specification D m)) (Unit {0}) (IsSpecificationFit D m) → IsFirst (specification_checks D xs t (Some m)) (refusal error)
        go (errors.Name y) c l = absurd (subst (λ q. Tells q (Unit {0}) (IsSpecificationFit D m)) c l)
        go errors.Shape c l = absurd (subst (λ q. Tells q (Unit {0}) (IsSpecificationFit D m)) c l tt)
        go errors.Program c l =
            inr (small e, inr (for_program p, inr (tt, inr (has_typing (IsSpecificationTyping D m) o, inr (o, inr (s, inl ((subst (λ q. Tells q (Unit {0}) (IsSpecificationFit D m)) c l).1, refl)))))))
        go errors.Memory c l = tt

    pub specification_declared : HasOneTyping (IsSpecificationTyping D m) → IsSpecificationShaped D xs m → (w : Words) → AreWordsOf w D → (new : Declared)
        → specification_fault D (whole_specification D m) ≡ None → new ≡ with_specification D (whole_specification D m)
        → IsDeclared D new w (raw.specification xs t)
    specification_declared o s w h new free f =
        let l = subst (λ q. Tells q (Unit {0}) (IsSpecificationFit D m)) free (told o s) in
        record {
          pass = subst (λ q. Pass (specification_checks D xs t q)) is
              (small e, (for_program p, (tt, (has_typing (IsSpecificationTyping D m) o, (o, (s, (l.1, tt)))))));
          is = f ∙ ap (λ q. option_map_or (λ u. with_specification D (whole_specification D u)) q D) is;
          words = subst (AreWordsOf w) (sym f) (let k : AreWordsOf w (with_specification D (whole_specification D m)) = record { types = h.types; constructors = h.constructors; functions = h.functions; program = h.program } in k);
        }

    pub specification_meant_by : HasOneTyping (IsSpecificationTyping D m) → IsSpecificationShaped D xs m
        → IsSpecificationMeant (theory [] D) D.program (whole_specification D m)
    specification_meant_by o s = specification_is_meant D xs m (has_typing (IsSpecificationTyping D m) o) s

pub ruleset declaring = (large_first, no_program_first, misnamed_first)

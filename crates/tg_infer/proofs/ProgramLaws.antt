-- Declarations of the program.
use Rattle.std.proofs.Common.{ℕ, ◌≡◌, Bool, true, false, List, [], ◌∷◌, length, map, Option, Some, None, refl, sym, ◌∙◌, ap, subst, inl, inr, if◌then◌else◌}
use Rattle.std.specs.Prelude.{option_map, option_and_then}
use Rattle.std.specs.Option.{option_map_or}
use Rattle.tg_accept.specs.Checks as checks
use Rattle.tg_accept.specs.Checks.{First, Pass}
use Rattle.tg_accept.specs.Declared.{Declared, with_program}
use Rattle.tg_accept.specs.Faults.{Fault, is_taken, program_fault}
use Rattle.tg_accept.specs.Kept.{names_of_types, names_of_values}
use Rattle.tg_accept.specs.Meaning.{type_variables}
use Rattle.tg_accept.specs.MeantLaws.{Tells}
use Rattle.tg_accept.specs.Programs.{program_meant, IsProgramMade, IsProgramFit}
use Rattle.tg_accept.specs.Raw as raw
use Rattle.tg_accept.specs.Raw.{Name, RawType}
use Rattle.tg_accept.specs.Theories.{checks_of, program_checks, after}
use Rattle.tg_accept.proofs.Told.{program_told}
use Rattle.tg_accept.proofs.FunctionMeanings.{program_is_meant}
use Rattle.tg_model.specs.Theory.{Program}
use Rattle.tg_model.specs.Types.{Ty}
use Rattle.tg_theory.specs.declared.errors.BuildErr.{BuildErr}
use Rattle.tg_theory.specs.declared.errors.BuildErr.TheVariants as errors
use Rattle.tg_theory.specs.Causes.{IsCause}
use Rattle.tg_infer.specs.Causes.{refusal}
use Rattle.tg_infer.specs.Refused.{IsFirst, IsDeclared}
use Rattle.tg_infer.specs.declared.words.Words.{Words}
use Rattle.tg_infer.specs.Signatures.{types_meant, signature_meant, value_meant, IsSignatureMade}
use Rattle.tg_infer.specs.Words.{AreWordsOf, HaveProgram, values_in}
use Rattle.tg_infer.proofs.WordLaws.{same_values, with_program_named}

pub taken_value : (types values : List Name) (x : Name) (ts : List RawType) → is_taken x values ≡ true → None ≡ value_meant types values x ts
taken_value types values x ts e = sym (ap (λ b. if b then None else signature_meant types ts) e)

pub free_value : (types values : List Name) (x : Name) (ts : List RawType) (o : Option (ℕ × (List Ty × Ty))) → is_taken x values ≡ false → o ≡ signature_meant types ts
    → o ≡ value_meant types values x ts
free_value types values x ts o e f = f ∙ sym (ap (λ b. if b then None else signature_meant types ts) e)

pub ruleset meaning = (taken_value, free_value)

-- the program's name and types
abbrev pub program_of : Name → ℕ × (List Ty × Ty) → Program
program_of x s = record { name = x; inputs = s.1.0; answer = s.1.1 }

meant_by : (D : Declared) (w : Words) (x : Name) (ts : List RawType) → AreWordsOf w D
    → program_meant D x ts ≡ option_map (program_of x) (value_meant w.types (values_in w) x ts)
meant_by D w x ts h = sym ((λ i. option_map (program_of x) (value_meant (h.types i) (same_values w D h i) x ts)) ∙ go (is_taken x (names_of_values D)) (types_meant (names_of_types D) ts))
  where
    go : (b : Bool) (o : Option (List Ty × Ty))
        → option_map (program_of x) (if b then None else option_map (λ p. (length (type_variables ts), p)) o)
        ≡ (if b then None else option_map (λ (p : List Ty × Ty). (let k : Program = record { name = x; inputs = p.0; answer = p.1 } in k)) o)
    go true o = refl
    go false None = refl
    go false (Some p) = refl

-- there are as many type variables as it says
params_of : (types values : List Name) (x : Name) (ts : List RawType) (s : ℕ × (List Ty × Ty)) → Some s ≡ value_meant types values x ts → s.0 ≡ length (type_variables ts)
params_of types values x ts s e = go (is_taken x values) (types_meant types ts) (sym e)
  where
    first : ℕ → Option (ℕ × (List Ty × Ty)) → ℕ
    first n None = n
    first n (Some p) = p.0

    go : (b : Bool) (o : Option (List Ty × Ty)) → (if b then None else option_map (λ p. (length (type_variables ts), p)) o) ≡ Some s → s.0 ≡ length (type_variables ts)
    go true o f = cc f
    go false None f = cc f
    go false (Some p) f = ap (first s.0) (sym f)

pub misnamed_program : (D : Declared) (w : Words) (x : Name) (ts : List RawType) → AreWordsOf w D → None ≡ value_meant w.types (values_in w) x ts
    → First (checks_of D (raw.program x ts)) checks.name
misnamed_program D w x ts h e =
    subst (λ o. First (program_checks D ts o) checks.name) (ap (option_map (program_of x)) e ∙ sym (meant_by D w x ts h)) (inl ((λ z. z), refl))

-- the declaration means this
pub record MeansProgram (D : Declared) (w : Words) (x : Name) (ts : List RawType) (s : ℕ × (List Ty × Ty)) : Type 0 where
  pub words : AreWordsOf w D
  pub is : Some s ≡ value_meant w.types (values_in w) x ts

module _ (D : Declared) (w : Words) (x : Name) (ts : List RawType) (s : ℕ × (List Ty × Ty)) (h : MeansProgram D w x ts s) where
  same : Some (program_of x s) ≡ program_meant D x ts
  same = ap (option_map (program_of x)) h.is ∙ sym (meant_by D w x ts h.words)

  made : IsSignatureMade D s → IsProgramMade D (length (type_variables ts)) (program_of x s)
  made m = subst (λ n. IsProgramMade D n (program_of x s)) (params_of w.types (values_in w) x ts s h.is) m

  pub unmade_program : ¬ (IsSignatureMade D s) → First (checks_of D (raw.program x ts)) checks.typing
  unmade_program m =
      subst (λ o. First (program_checks D ts o) checks.typing) same
      (inr (tt, inl ((λ k. m (subst (λ n. IsProgramMade D n (program_of x s)) (sym (params_of w.types (values_in w) x ts s h.is)) k)), refl)))

  pub program_cause : IsSignatureMade D s → (error : BuildErr) → IsCause (program_fault D (program_of x s)) error
      → IsFirst (checks_of D (raw.program x ts)) (refusal error)
  program_cause m error c =
      subst (λ o. IsFirst (program_checks D ts o) (refusal error)) same (go error c (program_told D x ts (program_of x s) (sym same)))
    where
      go : (error : BuildErr) → IsCause (program_fault D (program_of x s)) error → Tells (program_fault D (program_of x s)) (Unit {0}) (IsProgramFit D (program_of x s))
          → IsFirst (program_checks D ts (Some (program_of x s))) (refusal error)
      go (errors.Name y) c t = absurd (subst (λ o. Tells o (Unit {0}) (IsProgramFit D (program_of x s))) c t)
      go errors.Shape c t = absurd (subst (λ o. Tells o (Unit {0}) (IsProgramFit D (program_of x s))) c t tt)
      go errors.Program c t = inr (tt, inr (made m, inl ((subst (λ o. Tells o (Unit {0}) (IsProgramFit D (program_of x s))) c t).1, refl)))
      go errors.Memory c t = tt

  pub program_declared : IsSignatureMade D s → (new : Declared) (words : Words) → program_fault D (program_of x s) ≡ None → new ≡ with_program D (program_of x s)
      → HaveProgram w words x → IsDeclared D new words (raw.program x ts)
  program_declared m new words free is names =
      let t = subst (λ o. Tells o (Unit {0}) (IsProgramFit D (program_of x s))) free (program_told D x ts (program_of x s) (sym same)) in
      record {
        pass = subst (λ o. Pass (program_checks D ts o)) same (tt, (made m, (t.1, tt)));
        is = is ∙ ap (λ o. option_map_or (with_program D) o D) same;
        words = subst (AreWordsOf words) (sym is) (with_program_named w words D (program_of x s) h.words names);
      }

pub ruleset declaring = (misnamed_program)

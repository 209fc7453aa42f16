-- Declarations of functions.
use Rattle.std.proofs.Common.{ℕ, suc, ◌≡◌, ◌+◌, ◌<◌, ◌≤◌, ◌↔◌, Bool, true, false, ◌||◌, nat_lt, List, [], ◌∷◌, length, map, drop, Option, Some, None, refl, sym, ◌∙◌, ap, subst, inl, inr, arith, if◌then◌else◌}
use Rattle.std.specs.Prelude.{option_map, option_and_then, slice_get}
use Rattle.std.specs.Option.{option_map_or}
use Rattle.std.proofs.lemmas.Bool.{ltb-true, ltb-false}
use Rattle.tg_accept.specs.Checks as checks
use Rattle.tg_accept.specs.Checks.{First, Pass, Each}
use Rattle.tg_accept.specs.Declared.{Declared, theory, with_function}
use Rattle.tg_accept.specs.Equations.{Equation, equation_meant}
use Rattle.tg_accept.specs.Faults.{Fault, is_taken, function_fault}
use Rattle.tg_accept.specs.Functions as model
use Rattle.tg_accept.specs.Functions.{function_meant, signature_meant, signature_of, scope_of, whole_function, IsTypable, HasOneTypingEach, HasTwoTypingsSomewhere, IsFunctionShaped, NamesNoProgram}
use Rattle.tg_accept.specs.Kept.{names_of_types, names_of_values}
use Rattle.tg_accept.specs.Meaning.{each_meant, type_variables}
use Rattle.tg_accept.specs.MeantLaws.{Tells, IsFunctionWritten}
use Rattle.tg_accept.specs.Meant.{IsFunctionMeant}
use Rattle.tg_accept.specs.Raw as raw
use Rattle.tg_accept.specs.Raw.{Name, RawType, RawEquation, nodes}
use Rattle.tg_accept.specs.Theories.{checks_of, function_checks, after, most_nodes, IsSmall}
use Rattle.tg_accept.proofs.Told.{function_told}
use Rattle.tg_accept.proofs.FunctionMeanings.{function_is_meant}
use Rattle.tg_model.specs.Theory.{Function}
use Rattle.tg_model.specs.Types.{Ty}
use Rattle.tg_theory.specs.declared.errors.BuildErr.{BuildErr}
use Rattle.tg_theory.specs.declared.errors.BuildErr.TheVariants as errors
use Rattle.tg_theory.specs.Causes.{IsCause}
use Rattle.tg_theory.specs.Names.{IsName, AreNames}
use Rattle.tg_infer.specs.Causes.{refusal}
use Rattle.tg_infer.specs.Refused.{IsFirst, IsDeclared, kind}
use Rattle.tg_infer.specs.declared.words.Words.{Words}
use Rattle.tg_infer.specs.declared.refusals.Kind.{Kind}
use Rattle.tg_infer.specs.declared.refusals.Kind.TheVariants as kinds
use Rattle.tg_infer.specs.declared.refusals.Refusal.{Refusal}
use Rattle.tg_infer.specs.declared.refusals.Refusal.TheVariants.{Fault as at_fault, Memory}
use Rattle.tg_infer.specs.Functions.{raw_function, SmallSides, IsWritten, IsTypingFault}
use Rattle.tg_infer.specs.Named.{names_declared}
use Rattle.tg_infer.specs.Signatures.{types_meant, value_meant}
use Rattle.tg_infer.specs.Words.{AreWordsOf, HaveFunction, values_in, program_names}
use Rattle.tg_infer.proofs.WordLaws.{same_values, taken_in, with_function_named}

-- ---- sizes

pub record AreSmallSoFar (es rest : List RawEquation) : Type 0 where
  pub to : SmallSides rest → SmallSides es
  pub back : SmallSides es → SmallSides rest

pub begin_sizes : (es : List RawEquation) → AreSmallSoFar es es
begin_sizes es = record { to = λ h. h; back = λ h. h }

pub small_next : (es rest : List RawEquation) (e : RawEquation) → AreSmallSoFar es (e ∷ rest) → nat_lt 100000 (nodes e.body) ≡ false → AreSmallSoFar es rest
small_next es rest e h n = record {
  to = λ r. h.to ((let k : nodes e.body ≤ 100000 = (let l = ltb-false 100000 (nodes e.body) n in omega (arith, l)) in k), r);
  back = λ r. (h.back r).1;
}

pub large_at : (es rest : List RawEquation) (e : RawEquation) → AreSmallSoFar es (e ∷ rest) → nat_lt 100000 (nodes e.body) ≡ true → (false ≡ true) ↔ SmallSides es
large_at es rest e h n = ((λ f. cc f), λ s. let low : nodes e.body ≤ 100000 = (h.back s).0 in let high = ltb-true 100000 (nodes e.body) n in absurd (omega (arith, low, high)))

pub all_small : (es : List RawEquation) → AreSmallSoFar es [] → (true ≡ true) ↔ SmallSides es
all_small es h = ((λ e. h.to tt), λ s. refl)

pub ruleset sizes = (begin_sizes)

pub ruleset meaning = (begin_sizes)

-- ---- what is wrong first

module _ (D : Declared) (x : Name) (ts : List RawType) (es : List RawEquation) where
  first_of : (r : Bool) (k : checks.Kind) → First (function_checks D r es (function_meant D x r ts es)) k → First (checks_of D (raw_function r x ts es)) k
  first_of true k h = h
  first_of false k h = h

  is_first_of : (r : Bool) (k : Refusal) → IsFirst (function_checks D r es (function_meant D x r ts es)) k → IsFirst (checks_of D (raw_function r x ts es)) k
  is_first_of true k h = h
  is_first_of false k h = h

  pass_of : (r : Bool) → Pass (function_checks D r es (function_meant D x r ts es)) → Pass (checks_of D (raw_function r x ts es))
  pass_of true h = h
  pass_of false h = h

  after_of : (r : Bool) → option_map_or (λ m. with_function D (whole_function D r m)) (function_meant D x r ts es) D ≡ after D (raw_function r x ts es)
  after_of true = refl
  after_of false = refl

  pub misnamed_function : (r : Bool) → SmallSides es → None ≡ function_meant D x r ts es → First (checks_of D (raw_function r x ts es)) checks.name
  misnamed_function r small e = first_of r checks.name (subst (λ o. First (function_checks D r es o) checks.name) e (inr (small, inl ((λ z. z), refl))))

-- what there is to say of the name
named_as : (D : Declared) (x : Name) (r : Bool) (ts : List RawType) (es : List RawEquation) (m : model.Meant) → function_meant D x r ts es ≡ Some m
    → (m.signature.name ≡ x) × (is_taken x (names_of_values D) ≡ false)
named_as D x r ts es m e = go (is_taken x (names_of_values D)) refl (types_meant (names_of_types D) ts) (each_meant (equation_meant (scope_of D x r)) es) e
  where
    name_of : Name → Option model.Meant → Name
    name_of y None = y
    name_of y (Some k) = k.signature.name

    go : (b : Bool) → is_taken x (names_of_values D) ≡ b → (o : Option (List Ty × Ty)) (q : Option (List Equation))
        → (if b then None else option_and_then (λ f. option_map (λ ks. (let k : model.Meant = record { signature = f; equations = ks } in k)) q)
        (option_map (signature_of x (length (type_variables ts))) o)) ≡ Some m
        → (m.signature.name ≡ x) × (is_taken x (names_of_values D) ≡ false)
    go true t o q f = cc f
    go false t None q f = cc f
    go false t (Some p) None f = cc f
    go false t (Some p) (Some ks) f = (ap (name_of x) (sym f), t)

module _ (D : Declared) (r : Bool) (x : Name) (ts : List RawType) (es : List RawEquation) (m : model.Meant) (small : SmallSides es)
    (is : Some m ≡ function_meant D x r ts es) where
  pub typing_first : (k : Kind) → IsTypingFault D r m (Some k) → First (checks_of D (raw_function r x ts es)) (kind k)
  typing_first k h = first_of D x ts es r (kind k) (subst (λ o. First (function_checks D r es o) (kind k)) is (go k h))
    where
      go : (k : Kind) → IsTypingFault D r m (Some k) → First (function_checks D r es (Some m)) (kind k)
      go kinds.TermSize h = absurd h
      go kinds.Name h = absurd h
      go kinds.Typing h = inr (small, inr (tt, inl (h, refl)))
      go kinds.Ambiguous h = inr (small, inr (tt, inr (h.0, inl (h.1, refl))))
      go kinds.Shape h = absurd h
      go kinds.Program h = absurd h

  written : (r : Bool) → IsFunctionShaped D r m → IsFunctionWritten D r m
  written true s = s.written
  written false s = s

  pub unwritten_first : IsTypingFault D r m None → ¬ (IsFunctionWritten D r m) → First (checks_of D (raw_function r x ts es)) checks.shape
  unwritten_first t h =
      first_of D x ts es r checks.shape
      (subst (λ o. First (function_checks D r es o) checks.shape) is (inr (small, inr (tt, inr (t.0, inr (t.1, inl ((λ s. h (written r s)), refl)))))))

  told : IsTypingFault D r m None → IsFunctionWritten D r m → Tells (function_fault D (whole_function D r m)) (IsFunctionShaped D r m) (NamesNoProgram m)
  told t h = function_told D x r ts es m (sym is) t.0 h

  pub function_cause : IsTypingFault D r m None → IsFunctionWritten D r m → (error : BuildErr) → IsCause (function_fault D (whole_function D r m)) error
      → IsFirst (checks_of D (raw_function r x ts es)) (refusal error)
  function_cause t h error c =
      is_first_of D x ts es r (refusal error) (subst (λ o. IsFirst (function_checks D r es o) (refusal error)) is (go error c (told t h)))
    where
      go : (error : BuildErr) → IsCause (function_fault D (whole_function D r m)) error
          → Tells (function_fault D (whole_function D r m)) (IsFunctionShaped D r m) (NamesNoProgram m) → IsFirst (function_checks D r es (Some m)) (refusal error)
      go (errors.Name y) c l = absurd (subst (λ o. Tells o (IsFunctionShaped D r m) (NamesNoProgram m)) c l)
      go errors.Shape c l = inr (small, inr (tt, inr (t.0, inr (t.1, inl (subst (λ o. Tells o (IsFunctionShaped D r m) (NamesNoProgram m)) c l, refl)))))
      go errors.Program c l =
          let k = subst (λ o. Tells o (IsFunctionShaped D r m) (NamesNoProgram m)) c l in
          inr (small, inr (tt, inr (t.0, inr (t.1, inr (k.0, inl (k.1, refl))))))
      go errors.Memory c l = tt

  pub function_name : m.signature.name ≡ x
  function_name = (named_as D x r ts es m (sym is)).0

  pub function_free : (w : Words) → AreWordsOf w D → is_taken x w.functions ≡ false
  function_free w h =
      go (is_taken x w.constructors) (is_taken x w.functions)
      (sym (taken_in x w) ∙ ap (is_taken x) (same_values w D h) ∙ (named_as D x r ts es m (sym is)).1)
    where
      go : (a b : Bool) → (a || (b || is_taken x (program_names w.program))) ≡ false → b ≡ false
      go true b f = cc f
      go false true f = cc f
      go false false f = refl

  pub function_is_new : (w : Words) → AreWordsOf w D → (new : Declared) (words : Words) → IsTypingFault D r m None → IsFunctionWritten D r m
      → function_fault D (whole_function D r m) ≡ None → new ≡ with_function D (whole_function D r m) → HaveFunction w words x
      → IsDeclared D new words (raw_function r x ts es)
  function_is_new w h new words t k free e names =
      let l = subst (λ o. Tells o (IsFunctionShaped D r m) (NamesNoProgram m)) free (told t k) in
      record {
        pass = pass_of D x ts es r (subst (λ o. Pass (function_checks D r es o)) is (small, (tt, (t.0, (t.1, (l.0, (l.1, tt)))))));
        is = e ∙ ap (λ o. option_map_or (λ k. with_function D (whole_function D r k)) o D) is ∙ after_of D x ts es r;
        words = subst (AreWordsOf words) (sym e) (with_function_named w words D (whole_function D r m) h (subst (HaveFunction w words) (sym function_name) names));
      }

  pub function_meant_by : IsTypingFault D r m None → IsFunctionWritten D r m → IsFunctionMeant D (whole_function D r m)
  function_meant_by t h = function_is_meant D r m t.0 h

  pub function_named : AreNames (names_declared (raw_function r x ts es)) → IsName (whole_function D r m).name
  function_named h = subst IsName (sym function_name) (go r h)
    where
      go : (r : Bool) → AreNames (names_declared (raw_function r x ts es)) → IsName x
      go true h = h.0
      go false h = h.0

pub ruleset declaring = (begin_sizes)

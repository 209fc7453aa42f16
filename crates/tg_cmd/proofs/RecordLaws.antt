-- Outcomes are read in one way, and no test has two.
use Rattle.std.proofs.Common.{ℕ, ◌≡◌, ◌≢◌, ◌||◌, ◌⊎◌, inl, inr, Bool, true, false, nat_eq, List, [], ◌∷◌, map, Option, Some, None, refl, sym, ap, ◌∙◌, subst, arith}
use Rattle.tg_accept.proofs.StandsFor.{one_value}
use Rattle.tg_grammar.specs.declared.outcomes.RawItem.{RawItem}
use Rattle.tg_grammar.specs.declared.outcomes.RawOutcomes.{RawOutcomes}
use Rattle.tg_grammar.specs.declared.terms.RawTerm.{RawTerm}
use Rattle.tg_infer.specs.View.{raw_term}
use Rattle.tg_model.specs.Theory.{Theory}
use Rattle.tg_model.specs.Value.{Value}
use Rattle.tg_term.specs.Classes.{answer_of}
use Rattle.tg_term.specs.declared.classes.Outcome.{Outcome}
use Rattle.tg_types.specs.declared.options.Settings.{Settings}
use Rattle.tg_verdict.specs.declared.errors.OutcomeErr.{OutcomeErr}
use Rattle.tg_verdict.specs.declared.errors.OutcomeErr.TheVariants as errors
use Rattle.tg_verdict.specs.Places.{is_among, AreOnce, outcome_number}
use Rattle.tg_verdict.specs.Records.{in_order, Fault, unknown, repeated, bad_answer, IsAnswerOf, HasNoValue, IsRecord, HasFault, AreRecords, IsFirstFault, AreOutcomes, HasFirstFault, Stops}
use Rattle.tg_cmd.specs.declared.answer.Answer.{Answer}
use Rattle.tg_cmd.specs.declared.answer.Refusal.{Refusal}
use Rattle.tg_cmd.specs.declared.answer.Refusal.TheVariants as refusals
use Rattle.tg_cmd.specs.Causes.{IsRefusal}
use Rattle.tg_harness.specs.Tests.{record_of}
use Rattle.tg_cmd.specs.Output.{IsOutcomeLine}

clash : (b : Bool) → b ≡ true → b ≡ false → ⊥
clash b e f = let wrong : true ≡ false = sym e ∙ f in absurd cc

module _ (th : Theory) (known : List ℕ) where
  one_answer : (r : Option RawTerm) (a b : Option Value) → IsAnswerOf th known r a → IsAnswerOf th known r b → a ≡ b
  one_answer None None None h k = refl
  one_answer (Some r) (Some v) (Some w) h k = ap Some (one_value th th.program.answer (raw_term r) v w h k)
  one_answer None None (Some w) h k = absurd k
  one_answer None (Some v) b h k = absurd h
  one_answer (Some r) None b h k = absurd h
  one_answer (Some r) (Some v) None h k = absurd k

  pub one_reading : (before : List ℕ) (is : List RawItem) (os ps : List Outcome) → AreRecords th known before is os → AreRecords th known before is ps
      → map record_of os ≡ map record_of ps
  one_reading before [] [] [] h k = refl
  one_reading before [] [] (p ∷ ps) h k = absurd k
  one_reading before [] (o ∷ os) ps h k = absurd h
  one_reading before (i ∷ is) [] ps h k = absurd h
  one_reading before (i ∷ is) (o ∷ os) [] h k = absurd k
  one_reading before (i ∷ is) (o ∷ os) (p ∷ ps) h k =
      let number : o.test ≡ p.test = h.0.number ∙ sym k.0.number in
      let answer = one_answer i.answer (answer_of o) (answer_of p) h.0.answer k.0.answer in
      let rest = one_reading (i.test ∷ before) is os ps h.1 k.1 in
      λ j. (record { test = number j; answer = answer j }) ∷ rest j

  right_or_wrong : (before : List ℕ) (i : RawItem) (o : Outcome) (f : Fault) → IsRecord th known before i o → HasFault th known before i f → ⊥
  right_or_wrong before i o unknown h k = clash (is_among i.test known) h.of_test.known_test k
  right_or_wrong before i o repeated h k = clash (is_among i.test before) k.1 h.of_test.fresh
  right_or_wrong before i o bad_answer h k = by i.answer (answer_of o) h.answer k.1
    where
      by : (r : Option RawTerm) (a : Option Value) → IsAnswerOf th known r a → HasNoValue th known r → ⊥
      by None a p q = q
      by (Some r) (Some v) p q = q v p
      by (Some r) None p q = p

  no_fault : (before : List ℕ) (is : List RawItem) (os : List Outcome) (n : ℕ) (f : Fault) → AreRecords th known before is os
      → IsFirstFault th known before is n f → ⊥
  no_fault before [] os n f h k = k
  no_fault before (i ∷ is) [] n f h k = h
  no_fault before (i ∷ is) (o ∷ os) n f h (inl k) = right_or_wrong before i o f h.0 k.0
  no_fault before (i ∷ is) (o ∷ os) n f h (inr k) = no_fault (i.test ∷ before) is os n f h.1 k.2

  one_fault : (before : List ℕ) (i : RawItem) (f g : Fault) → HasFault th known before i f → HasFault th known before i g → f ≡ g
  one_fault before i unknown unknown h k = refl
  one_fault before i unknown repeated h k = absurd (clash (is_among i.test known) k.0 h)
  one_fault before i unknown bad_answer h k = absurd (clash (is_among i.test known) k.0.known_test h)
  one_fault before i repeated unknown h k = absurd (clash (is_among i.test known) h.0 k)
  one_fault before i repeated repeated h k = refl
  one_fault before i repeated bad_answer h k = absurd (clash (is_among i.test before) h.1 k.0.fresh)
  one_fault before i bad_answer unknown h k = absurd (clash (is_among i.test known) h.0.known_test k)
  one_fault before i bad_answer repeated h k = absurd (clash (is_among i.test before) k.1 h.0.fresh)
  one_fault before i bad_answer bad_answer h k = refl

  one_first : (before : List ℕ) (is : List RawItem) (n m : ℕ) (f g : Fault) → IsFirstFault th known before is n f → IsFirstFault th known before is m g
      → (n ≡ m) × (f ≡ g)
  one_first before [] n m f g h k = absurd h
  one_first before (i ∷ is) n m f g (inl h) (inl k) = (h.1 ∙ sym k.1, one_fault before i f g h.0 k.0)
  one_first before (i ∷ is) n m f g (inl h) (inr k) = absurd (right_or_wrong before i k.0 f k.1 h.0)
  one_first before (i ∷ is) n m f g (inr h) (inl k) = absurd (right_or_wrong before i h.0 g h.1 k.0)
  one_first before (i ∷ is) n m f g (inr h) (inr k) = one_first (i.test ∷ before) is n m f g h.2 k.2

  -- no test has two outcomes
  same : (m n : ℕ) → nat_eq m n ≡ true → m ≡ n
  same m n e = grind (arith, e)

  itself : (n : ℕ) → nat_eq n n ≡ true
  itself n = grind arith

  none_again : (before : List ℕ) (is : List RawItem) (os : List Outcome) (n : ℕ) → AreRecords th known before is os → is_among n before ≡ true
      → is_among n (map outcome_number os) ≡ false
  none_again before [] [] n h e = refl
  none_again before [] (o ∷ os) n h e = absurd h
  none_again before (i ∷ is) [] n h e = absurd h
  none_again before (i ∷ is) (o ∷ os) n h e = by (nat_eq n o.test) refl (none_again (i.test ∷ before) is os n h.1 (later (nat_eq n i.test) e))
    where
      later : (b : Bool) → is_among n before ≡ true → (b || is_among n before) ≡ true
      later true f = refl
      later false f = f

      by : (b : Bool) → nat_eq n o.test ≡ b → is_among n (map outcome_number os) ≡ false → (b || is_among n (map outcome_number os)) ≡ false
      by false f rest = rest
      by true f rest = absurd (clash (is_among n before) e (ap (λ k. is_among k before) (same n o.test f ∙ h.0.number) ∙ h.0.of_test.fresh))

  pub each_once : (before : List ℕ) (is : List RawItem) (os : List Outcome) → AreRecords th known before is os → AreOnce (map outcome_number os)
  each_once before [] [] h = tt
  each_once before [] (o ∷ os) h = absurd h
  each_once before (i ∷ is) [] h = absurd h
  each_once before (i ∷ is) (o ∷ os) h = (
    none_again (i.test ∷ before) is os o.test h.1
        (ap (λ b. b || is_among o.test before) (ap (nat_eq o.test) (sym h.0.number) ∙ itself o.test)),
    each_once (i.test ∷ before) is os h.1,
  )

-- ---- refusals

abbrev refusal_of : Fault → ℕ → Refusal
refusal_of unknown n = refusals.Unknown n
refusal_of repeated n = refusals.Repeated n
refusal_of bad_answer n = refusals.BadAnswer n

module _ (th : Theory) (s : Settings) (known : List ℕ) (raw : RawOutcomes) where
  abbrev Wrong : Answer → List ℕ → Type 0
  Wrong a t = ((raw.settings ≢ in_order s) × IsRefusal (refusals.Settings raw.settings (in_order s)) a t)
      ⊎ ((n : ℕ) × (f : Fault) × HasFirstFault th s known raw n f × IsRefusal (refusal_of f n) a t)

  wrong : (e : OutcomeErr) (a : Answer) (t : List ℕ) → Stops th s known raw e → IsOutcomeLine e a t → Wrong a t
  wrong (errors.Settings stated used) a t h line =
      inl (
        h.0,
        subst (λ (u : List ℕ). IsRefusal (refusals.Settings raw.settings u) a t) h.2
            (subst (λ (u : List ℕ). IsRefusal (refusals.Settings u used) a t) h.1 line),
      )
  wrong (errors.Unknown n) a t h line = inr (n, unknown, h, line)
  wrong (errors.Repeated n) a t h line = inr (n, repeated, h, line)
  wrong (errors.BadAnswer n) a t h line = inr (n, bad_answer, h, line)
  wrong errors.Memory a t h line = absurd line

  never_both : (a : Answer) (t : List ℕ) (os : List Outcome) → Wrong a t → AreOutcomes th s known raw os → ⊥
  never_both a t os (inl h) k = h.0 k.settings
  never_both a t os (inr (n, f, h, line)) k = no_fault th known [] raw.items os n f k.records h.first

  pub not_read : (e : OutcomeErr) (a : Answer) (t : List ℕ) (os : List Outcome) → Stops th s known raw e → IsOutcomeLine e a t
      → AreOutcomes th s known raw os → ⊥
  not_read e a t os h line k = never_both a t os (wrong e a t h line) k

  agree : (r q : Refusal) → r ≡ q → (a b : Answer) (t u : List ℕ) → IsRefusal r a t → IsRefusal q b u → (a ≡ b) × (t ≡ u)
  agree r q e a b t u h k =
      let k' = subst (λ x. IsRefusal x b u) (sym e) k in
      (h.answers ∙ sym k'.answers, h.says ∙ sym k'.says)

  pub one_refusal : (e d : OutcomeErr) (a b : Answer) (t u : List ℕ) → Stops th s known raw e → IsOutcomeLine e a t → Stops th s known raw d
      → IsOutcomeLine d b u → (a ≡ b) × (t ≡ u)
  one_refusal e d a b t u h line k other = by (wrong e a t h line) (wrong d b u k other)
    where
      by : Wrong a t → Wrong b u → (a ≡ b) × (t ≡ u)
      by (inl p) (inl q) = agree _ _ refl a b t u p.1 q.1
      by (inl p) (inr (n, f, q, l)) = absurd (p.0 q.settings)
      by (inr (n, f, p, l)) (inl q) = absurd (q.0 p.settings)
      by (inr (n, f, p, l)) (inr (m, g, q, k)) =
          let same = one_first th known [] raw.items n m f g p.first q.first in
          agree (refusal_of f n) (refusal_of g m) (λ j. refusal_of (same.1 j) (same.0 j)) a b t u l k

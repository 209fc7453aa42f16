-- Records, one behind another.
use Rattle.std.proofs.Common.{ℕ, zero, suc, ◌≡◌, ◌+◌, ◌++◌, ◌||◌, Bool, true, false, nat_eq, List, [], ◌∷◌, take, Some, inl, inr, refl, sym, ap, ◌∙◌, subst, add-one}
use Rattle.std.specs.Prelude.{slice_get, if◌then◌else◌}
use Rattle.tg_grammar.specs.declared.outcomes.RawItem.{RawItem}
use Rattle.tg_grammar.specs.declared.outcomes.RawOutcomes.{RawOutcomes}
use Rattle.tg_types.specs.declared.options.Settings.{Settings}
use Rattle.tg_model.specs.Theory.{Theory}
use Rattle.tg_term.specs.declared.classes.Outcome.{Outcome}
use Rattle.tg_verdict.specs.declared.errors.OutcomeErr.{OutcomeErr}
use Rattle.tg_verdict.specs.declared.errors.OutcomeErr.TheVariants as errors
use Rattle.tg_verdict.specs.Places.{is_among, HaveSame}
use Rattle.tg_verdict.specs.Records.{Fault, unknown, repeated, bad_answer, IsOfTest, IsRecord, HasFault, AreRecords, IsFirstFault, RecordStops, RecordsStop, Stops, AreOutcomes, in_order}
use Rattle.tg_verdict.specs.Reached.{numbers_back, IsReached}
use Rattle.tg_verdict.proofs.PlaceLaws.{pushed}

module _ (th : Theory) (known : List ℕ) where
  -- what is true behind some numbers is so behind others that are the same
  of_same : (bs cs : List ℕ) → HaveSame bs cs → (i : RawItem) → IsOfTest th known bs i → IsOfTest th known cs i
  of_same bs cs same i h = record { known_test = h.known_test; fresh = sym (same i.test) ∙ h.fresh }

  record_same : (bs cs : List ℕ) → HaveSame bs cs → (i : RawItem) (o : Outcome) → IsRecord th known bs i o → IsRecord th known cs i o
  record_same bs cs same i o h = record { of_test = of_same bs cs same i h.of_test; number = h.number; answer = h.answer }

  fault_same : (bs cs : List ℕ) → HaveSame bs cs → (i : RawItem) (f : Fault) → HasFault th known bs i f → HasFault th known cs i f
  fault_same bs cs same i unknown h = h
  fault_same bs cs same i repeated h = (h.0, sym (same i.test) ∙ h.1)
  fault_same bs cs same i bad_answer h = (of_same bs cs same i h.0, h.1)

  -- one record more
  more_from : (bs : List ℕ) (is : List RawItem) (os : List Outcome) (i : RawItem) (o : Outcome) → AreRecords th known bs is os
      → IsRecord th known (numbers_back bs is) i o → AreRecords th known bs (is ++ i ∷ []) (os ++ o ∷ [])
  more_from bs [] [] i o h r = (r, tt)
  more_from bs [] (p ∷ os) i o h r = absurd h
  more_from bs (j ∷ is) [] i o h r = absurd h
  more_from bs (j ∷ is) (p ∷ os) i o h r = (h.0, more_from (j.test ∷ bs) is os i o h.1 r)

  numbers_more : (bs : List ℕ) (is : List RawItem) (i : RawItem) → numbers_back bs (is ++ i ∷ []) ≡ i.test ∷ numbers_back bs is
  numbers_more bs [] i = refl
  numbers_more bs (j ∷ is) i = numbers_more (j.test ∷ bs) is i

  -- a fault behind them
  fault_from : (bs : List ℕ) (is : List RawItem) (os : List Outcome) (i : RawItem) (js : List RawItem) (f : Fault) → AreRecords th known bs is os
      → HasFault th known (numbers_back bs is) i f → IsFirstFault th known bs (is ++ i ∷ js) i.test f
  fault_from bs [] [] i js f h r = inl (r, refl)
  fault_from bs [] (p ∷ os) i js f h r = absurd h
  fault_from bs (j ∷ is) [] i js f h r = absurd h
  fault_from bs (j ∷ is) (p ∷ os) i js f h r = inr (p, h.0, fault_from (j.test ∷ bs) is os i js f h.1 r)

  split : (is : List RawItem) (n : ℕ) (i : RawItem) → slice_get is n ≡ Some i → (js : List RawItem) × (is ≡ take n is ++ i ∷ js)
  split [] n i e = absurd cc
  split (j ∷ is) zero i e = let p : j ≡ i = cc e in (is, ap (λ x. x ∷ is) p)
  split (j ∷ is) (suc n) i e = let rest = split is n i e in (rest.0, ap (λ l. j ∷ l) rest.1)

  take_after : (is : List RawItem) (n : ℕ) (i : RawItem) → slice_get is n ≡ Some i → take (suc n) is ≡ take n is ++ i ∷ []
  take_after [] n i e = absurd cc
  take_after (j ∷ is) zero i e = let p : j ≡ i = cc e in ap (λ x. x ∷ []) p
  take_after (j ∷ is) (suc n) i e = ap (λ l. j ∷ l) (take_after is n i e)

  take_one : (is : List RawItem) (n : ℕ) (i : RawItem) → slice_get is n ≡ Some i → take (n + 1) is ≡ take n is ++ i ∷ []
  take_one is n i e = ap (λ m. take m is) (add-one n) ∙ take_after is n i e

  pub reached_next : (is : List RawItem) (n : ℕ) (i : RawItem) (os ps : List Outcome) (o : Outcome) (bs cs : List ℕ) → slice_get is n ≡ Some i
      → IsReached th known (take n is) os bs → IsRecord th known bs i o → ps ≡ os ++ o ∷ []
      → cs ≡ (if is_among i.test bs then bs else bs ++ i.test ∷ []) → IsReached th known (take (n + 1) is) ps cs
  reached_next is n i os ps o bs cs e h r p c =
      let whole = take_one is n i e in
      let back = numbers_back [] (take n is) in
      record {
        records =
            subst (λ l. AreRecords th known [] l ps) (sym whole)
            (subst (λ l. AreRecords th known [] (take n is ++ i ∷ []) l) (sym p)
            (more_from [] (take n is) os i o h.records (record_same bs back h.numbered i o r)));
        numbered = λ k.
            ap (is_among k) c ∙ pushed bs i.test k ∙ ap (λ b. b || nat_eq k i.test) (h.numbered k) ∙ swapped (is_among k back) (nat_eq k i.test)
            ∙ ap (is_among k) (sym (numbers_more [] (take n is) i) ∙ ap (numbers_back []) (sym whole));
      }
    where
      swapped : (a b : Bool) → (a || b) ≡ (b || a)
      swapped true true = refl
      swapped true false = refl
      swapped false true = refl
      swapped false false = refl

  first : (is : List RawItem) (n : ℕ) (i : RawItem) (os : List Outcome) (bs : List ℕ) → slice_get is n ≡ Some i
      → IsReached th known (take n is) os bs → (f : Fault) (m : ℕ) → HasFault th known bs i f × (m ≡ i.test) → IsFirstFault th known [] is m f
  first is n i os bs g h f m s =
      let parts = split is n i g in
      subst (λ k. IsFirstFault th known [] is k f) (sym s.1)
      (subst (λ l. IsFirstFault th known [] l i.test f) (sym parts.1)
      (fault_from [] (take n is) os i parts.0 f h.records (fault_same bs (numbers_back [] (take n is)) h.numbered i f s.0)))

  pub stopped_at : (is : List RawItem) (n : ℕ) (i : RawItem) (os : List Outcome) (bs : List ℕ) (e : OutcomeErr) → slice_get is n ≡ Some i
      → IsReached th known (take n is) os bs → RecordStops th known bs i e → RecordsStop th known [] is e
  stopped_at is n i os bs (errors.Settings a b) g h s = absurd s
  stopped_at is n i os bs (errors.Unknown m) g h s = first is n i os bs g h unknown m s
  stopped_at is n i os bs (errors.Repeated m) g h s = first is n i os bs g h repeated m s
  stopped_at is n i os bs (errors.BadAnswer m) g h s = first is n i os bs g h bad_answer m s
  stopped_at is n i os bs errors.Memory g h s = tt

-- ---- with other lists of the same known numbers

module _ (th : Theory) (ks ms : List ℕ) (same : HaveSame ks ms) where
  known_of_test : (bs : List ℕ) (i : RawItem) → IsOfTest th ks bs i → IsOfTest th ms bs i
  known_of_test bs i h = record { known_test = sym (same i.test) ∙ h.known_test; fresh = h.fresh }

  known_record : (bs : List ℕ) (i : RawItem) (o : Outcome) → IsRecord th ks bs i o → IsRecord th ms bs i o
  known_record bs i o h = record { of_test = known_of_test bs i h.of_test; number = h.number; answer = h.answer }

  known_fault : (bs : List ℕ) (i : RawItem) (f : Fault) → HasFault th ks bs i f → HasFault th ms bs i f
  known_fault bs i unknown h = sym (same i.test) ∙ h
  known_fault bs i repeated h = (sym (same i.test) ∙ h.0, h.1)
  known_fault bs i bad_answer h = (known_of_test bs i h.0, h.1)

  known_records : (bs : List ℕ) (is : List RawItem) (os : List Outcome) → AreRecords th ks bs is os → AreRecords th ms bs is os
  known_records bs [] [] h = tt
  known_records bs [] (o ∷ os) h = absurd h
  known_records bs (i ∷ is) [] h = absurd h
  known_records bs (i ∷ is) (o ∷ os) h = (known_record bs i o h.0, known_records (i.test ∷ bs) is os h.1)

  known_first : (bs : List ℕ) (is : List RawItem) (n : ℕ) (f : Fault) → IsFirstFault th ks bs is n f → IsFirstFault th ms bs is n f
  known_first bs [] n f h = absurd h
  known_first bs (i ∷ is) n f (inl h) = inl (known_fault bs i f h.0, h.1)
  known_first bs (i ∷ is) n f (inr h) = inr (h.0, known_record bs i h.0 h.1, known_first (i.test ∷ bs) is n f h.2)

pub stops_known : (th : Theory) (s : Settings) (ks ms : List ℕ) (raw : RawOutcomes) (e : OutcomeErr) → raw.settings ≡ in_order s → HaveSame ks ms
    → RecordsStop th ks [] raw.items e → Stops th s ms raw e
stops_known th s ks ms raw (errors.Settings a b) settings same h = absurd h
stops_known th s ks ms raw (errors.Unknown n) settings same h = record { settings = settings; first = known_first th ks ms same [] raw.items n unknown h }
stops_known th s ks ms raw (errors.Repeated n) settings same h = record { settings = settings; first = known_first th ks ms same [] raw.items n repeated h }
stops_known th s ks ms raw (errors.BadAnswer n) settings same h = record { settings = settings; first = known_first th ks ms same [] raw.items n bad_answer h }
stops_known th s ks ms raw errors.Memory settings same h = tt

pub records_known : (th : Theory) (s : Settings) (ks ms : List ℕ) (raw : RawOutcomes) (os : List Outcome) → raw.settings ≡ in_order s → HaveSame ks ms
    → AreRecords th ks [] raw.items os → AreOutcomes th s ms raw os
records_known th s ks ms raw os settings same h = record { settings = settings; records = known_records th ks ms same [] raw.items os h }

pub ruleset recording = (reached_next, stopped_at)

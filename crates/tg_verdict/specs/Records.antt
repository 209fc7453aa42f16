-- Which outcomes are those of tests, record by record, and what is wrong with others.
use Rattle.std.specs.Prelude.{ℕ, ◌≡◌, ◌≢◌, ◌⊎◌, true, false, List, [], ◌∷◌, Option, Some, None}
use Rattle.tg_accept.specs.Standing.{IsValueOf}
use Rattle.tg_grammar.specs.declared.outcomes.RawItem.{RawItem}
use Rattle.tg_grammar.specs.declared.outcomes.RawOutcomes.{RawOutcomes}
use Rattle.tg_grammar.specs.declared.terms.RawTerm.{RawTerm}
use Rattle.tg_infer.specs.View.{raw_term}
use Rattle.tg_model.specs.Theory.{Theory}
use Rattle.tg_model.specs.Value.{Value}
use Rattle.tg_term.specs.Classes.{answer_of}
use Rattle.tg_term.specs.declared.classes.Outcome.{Outcome}
use Rattle.tg_types.specs.declared.options.Settings.{Settings}
use Rattle.tg_verdict.specs.Places.{is_among}
use Rattle.tg_verdict.specs.declared.errors.OutcomeErr.{OutcomeErr}
use Rattle.tg_verdict.specs.declared.errors.OutcomeErr.TheVariants as errors

-- settings in the order of a header
abbrev pub in_order : Settings → List ℕ
in_order s = s.depth ∷ s.bound ∷ s.seed ∷ s.tries ∷ s.width ∷ []

-- what can be wrong with a record, the first of them being told
pub data Fault : Type 0 where
  unknown : Fault
  repeated : Fault
  bad_answer : Fault

module _ (th : Theory) (known : List ℕ) where
  -- what is recorded is this value of the program's answer type, or that the program raised an error
  abbrev pub IsAnswerOf : Option RawTerm → Option Value → Type 0
  IsAnswerOf (Some r) (Some v) = IsValueOf th th.program.answer (raw_term r) v
  IsAnswerOf None None = Unit {0}
  IsAnswerOf _ _ = ⊥

  abbrev pub HasNoValue : Option RawTerm → Type 0
  HasNoValue None = ⊥
  HasNoValue (Some r) = (v : Value) → ¬ (IsValueOf th th.program.answer (raw_term r) v)

  -- a record of a test that has none among `before`
  pub record IsOfTest (before : List ℕ) (item : RawItem) : Type 0 where
    pub known_test : is_among item.test known ≡ true
    pub fresh : is_among item.test before ≡ false

  -- it is the outcome
  pub record IsRecord (before : List ℕ) (item : RawItem) (o : Outcome) : Type 0 where
    pub of_test : IsOfTest before item
    pub number : o.test ≡ item.test
    pub answer : IsAnswerOf item.answer (answer_of o)

  abbrev pub HasFault : List ℕ → RawItem → Fault → Type 0
  HasFault before item unknown = is_among item.test known ≡ false
  HasFault before item repeated = (is_among item.test known ≡ true) × (is_among item.test before ≡ true)
  HasFault before item bad_answer = IsOfTest before item × HasNoValue item.answer

  -- the records behind others, whose numbers are `before`
  abbrev pub AreRecords : List ℕ → List RawItem → List Outcome → Type 0
  AreRecords before [] [] = Unit {0}
  AreRecords before (i ∷ is) (o ∷ os) = IsRecord before i o × AreRecords (i.test ∷ before) is os
  AreRecords before _ _ = ⊥

  -- the first record with a fault, and its number
  abbrev pub IsFirstFault : List ℕ → List RawItem → ℕ → Fault → Type 0
  IsFirstFault before [] n fault = ⊥
  IsFirstFault before (i ∷ is) n fault =
      (HasFault before i fault × (n ≡ i.test)) ⊎ ((o : Outcome) × IsRecord before i o × IsFirstFault (i.test ∷ before) is n fault)

-- outcomes with these settings of tests with these numbers
pub record AreOutcomes (th : Theory) (s : Settings) (known : List ℕ) (raw : RawOutcomes) (os : List Outcome) : Type 0 where
  pub settings : raw.settings ≡ in_order s
  pub records : AreRecords th known [] raw.items os

-- the header states the settings in use, and a record has a fault
pub record HasFirstFault (th : Theory) (s : Settings) (known : List ℕ) (raw : RawOutcomes) (n : ℕ) (fault : Fault) : Type 0 where
  pub settings : raw.settings ≡ in_order s
  pub first : IsFirstFault th known [] raw.items n fault

-- why outcomes aren't read
abbrev pub Stops : Theory → Settings → List ℕ → RawOutcomes → OutcomeErr → Type 0
Stops th s known raw (errors.Settings stated used) = (raw.settings ≢ in_order s) × (stated ≡ raw.settings) × (used ≡ in_order s)
Stops th s known raw (errors.Unknown n) = HasFirstFault th s known raw n unknown
Stops th s known raw (errors.Repeated n) = HasFirstFault th s known raw n repeated
Stops th s known raw (errors.BadAnswer n) = HasFirstFault th s known raw n bad_answer
Stops th s known raw errors.Memory = Unit {0}

-- the same of records behind others, and of one record
abbrev pub RecordsStop : Theory → List ℕ → List ℕ → List RawItem → OutcomeErr → Type 0
RecordsStop th known before is (errors.Settings stated used) = ⊥
RecordsStop th known before is (errors.Unknown n) = IsFirstFault th known before is n unknown
RecordsStop th known before is (errors.Repeated n) = IsFirstFault th known before is n repeated
RecordsStop th known before is (errors.BadAnswer n) = IsFirstFault th known before is n bad_answer
RecordsStop th known before is errors.Memory = Unit {0}

abbrev pub RecordStops : Theory → List ℕ → List ℕ → RawItem → OutcomeErr → Type 0
RecordStops th known before i (errors.Settings stated used) = ⊥
RecordStops th known before i (errors.Unknown n) = HasFault th known before i unknown × (n ≡ i.test)
RecordStops th known before i (errors.Repeated n) = HasFault th known before i repeated × (n ≡ i.test)
RecordStops th known before i (errors.BadAnswer n) = HasFault th known before i bad_answer × (n ≡ i.test)
RecordStops th known before i errors.Memory = Unit {0}

-- What a run reads and writes.
use Rattle.std.specs.Prelude.{ℕ, ◌+◌, ◌≡◌, ◌<◌, ◌≤◌, ◌⊎◌, nat_eq, if◌then◌else◌, List, [], length, map, take, drop, Option, Some, None, IfSome}
use Rattle.std.specs.Io.KnownBytes.{Consumes, Appends}
use Rattle.tg_io.specs.Faults.{Rose}
use Rattle.tg_model.specs.Formula.{Sequent}
use Rattle.tg_model.specs.Theory as model
use Rattle.tg_types.specs.declared.options.Settings.{Settings}
use Rattle.tg_cert.specs.Certificates.{Proves, FailsAt}
use Rattle.tg_grammar.specs.declared.certificates.RawCert.{RawCert}
use Rattle.tg_grammar.specs.declared.certificates.RawLine.{RawLine}
use Rattle.tg_grammar.specs.declared.declarations.RawTheory.{RawTheory}
use Rattle.tg_grammar.specs.declared.outcomes.RawOutcomes.{RawOutcomes}
use Rattle.tg_grammar.specs.Parts.{Theory}
use Rattle.tg_grammar.specs.Parts as parts
use Rattle.tg_hyps.specs.Hypotheses.{Class}
use Rattle.tg_derive.specs.Work as work
use Rattle.tg_derive.specs.Classes.{Derived, AreClasses}
use Rattle.tg_term.specs.declared.classes.Outcome.{Outcome}
use Rattle.tg_types.specs.declared.verdicts.Verdict.{Verdict}
use Rattle.tg_types.specs.declared.verdicts.Verdict.TheVariants.{Failed}
use Rattle.tg_verdict.specs.declared.errors.OutcomeErr.{OutcomeErr}
use Rattle.tg_verdict.specs.declared.errors.OutcomeErr.TheVariants as errors
use Rattle.tg_verdict.specs.Records.{AreOutcomes, Stops}
use Rattle.tg_cmd.specs.declared.answer.Refusal.TheVariants as refusals
use Rattle.tg_cmd.specs.declared.answer.Answer.{Answer}
use Rattle.tg_cmd.specs.declared.answer.Answer.TheVariants.{Done, TestsFailed, Usage, ReadFault, WriteFault, Memory, Refused, Limit}
use Rattle.tg_cmd.specs.declared.answer.LimitName.{LimitName}
use Rattle.tg_cmd.specs.declared.answer.LimitName.TheVariants as limits
use Rattle.tg_cmd.specs.declared.making.Task.{Task}
use Rattle.tg_cmd.specs.declared.making.Task.TheVariants as tasks
use Rattle.tg_cmd.specs.Causes.{longest, IsRefusal, IsLimit, OfRaw, OfInput}
use Rattle.tg_cmd.specs.CheckedLines.{checked_text}
use Rattle.tg_cmd.specs.Data.{choices_by_data}
use Rattle.tg_harness.specs.HarnessTexts.{harness_text}
use Rattle.tg_harness.specs.OutcomeTexts.{outcomes_text}
use Rattle.tg_harness.specs.Tests.{Record, record_of}
use Rattle.tg_cmd.specs.Judging.{tests_from, verdicts_from}
use Rattle.tg_cmd.specs.Lines.{count_of, report_on, judged_report_on}
use Rattle.tg_cmd.specs.Requests.{Request, generate, harness, judge, simulate, check}
use Rattle.tg_cmd.specs.StandIn.{StandsIn, simulated}
use Rattle.tg_cmd.specs.Tests.{tests_by_data}

-- the limits of the work on classes
abbrev pub limit_of : work.Limit → LimitName
limit_of work.patterns = limits.Patterns
limit_of work.splits = limits.Splits
limit_of work.steps = limits.Steps
limit_of work.clauses = limits.Clauses

-- Of the classes of an accepted theory to a depth; `Of` is what comes of them where no limit is passed.
pub data OfClasses (Of : List Class → Answer → List ℕ → Type 0) (k : ℕ) (th : model.Theory) (answer : Answer) (text : List ℕ) : Type 0 where
  limited : (l : work.Limit) → Derived th k (work.passed l) → IsLimit (limit_of l) answer text → OfClasses Of k th answer text
  classes : (cs : List Class) → AreClasses th k cs → Of cs answer text → OfClasses Of k th answer text

-- of a theory as it is read, to the depth of the settings
abbrev pub OfTheory : (Settings → model.Theory → List Class → Answer → List ℕ → Type 0) → Settings → RawTheory → Answer → List ℕ → Type 0
OfTheory Of s = OfRaw (λ th. OfClasses (Of s th) s.depth th)

-- ---- `generate`

pub record IsReport (s : Settings) (th : model.Theory) (cs : List Class) (answer : Answer) (text : List ℕ) : Type 0 where
  pub answers : answer ≡ Done
  pub says : text ≡ report_on th s cs

-- ---- `harness`

pub record IsHarness (s : Settings) (th : model.Theory) (cs : List Class) (answer : Answer) (text : List ℕ) : Type 0 where
  pub answers : answer ≡ Done
  pub says : text ≡ harness_text th s (tests_by_data th s cs)

-- ---- `simulate`

-- the outcomes of the tests where the n-th function stands in
pub record IsSimulation (n : ℕ) (s : Settings) (th : model.Theory) (cs : List Class) (answer : Answer) (text : List ℕ) : Type 0 where
  pub answers : answer ≡ Done
  pub says : text ≡ outcomes_text th s (simulated th n (tests_by_data th s cs))

-- No function of the name can stand in, or one does.
pub data OfStandIn (name : List ℕ) (s : Settings) (th : model.Theory) (cs : List Class) (answer : Answer) (text : List ℕ) : Type 0 where
  none : ((n : ℕ) → ¬ (StandsIn th name n)) → IsRefusal refusals.StandIn answer text → OfStandIn name s th cs answer text
  stands_in : (n : ℕ) → StandsIn th name n → IsSimulation n s th cs answer text → OfStandIn name s th cs answer text

-- as the program has the three
abbrev pub Makes : Task → Settings → model.Theory → List Class → Answer → List ℕ → Type 0
Makes tasks.Report = IsReport
Makes tasks.Harness = IsHarness
Makes (tasks.Outcomes name) = OfStandIn name.now

-- ---- `judge`

-- some test failed
abbrev pub ending_on : List Verdict → Answer
ending_on vs = if nat_eq (count_of Failed vs) 0 then Done else TestsFailed

pub record IsJudgement (s : Settings) (th : model.Theory) (cs : List Class) (rs : List Record) (answer : Answer) (text : List ℕ) : Type 0 where
  pub answers : answer ≡ ending_on (verdicts_from th 1 cs (choices_by_data th s cs) rs)
  pub says : text ≡ judged_report_on th s cs rs

-- the numbers of the tests
abbrev pub tests_of : Settings → model.Theory → List Class → List ℕ
tests_of s th cs = tests_from 1 (choices_by_data th s cs)

-- the line where outcomes aren't those of the tests
abbrev pub IsOutcomeLine : OutcomeErr → Answer → List ℕ → Type 0
IsOutcomeLine (errors.Settings stated used) answer text = IsRefusal (refusals.Settings stated used) answer text
IsOutcomeLine (errors.Unknown n) answer text = IsRefusal (refusals.Unknown n) answer text
IsOutcomeLine (errors.Repeated n) answer text = IsRefusal (refusals.Repeated n) answer text
IsOutcomeLine (errors.BadAnswer n) answer text = IsRefusal (refusals.BadAnswer n) answer text
IsOutcomeLine errors.Memory answer text = ⊥

-- Of outcomes as they are read: they are refused, or they are those of the tests and are judged.
pub data OfOutcomes (s : Settings) (raw : RawOutcomes) (th : model.Theory) (cs : List Class) (answer : Answer) (text : List ℕ) : Type 0 where
  unread : (e : OutcomeErr) → Stops th s (tests_of s th cs) raw e → IsOutcomeLine e answer text → OfOutcomes s raw th cs answer text
  read : (os : List Outcome) → AreOutcomes th s (tests_of s th cs) raw os → IsJudgement s th cs (map record_of os) answer text
      → OfOutcomes s raw th cs answer text

abbrev pub Judged : Settings → RawTheory × RawOutcomes → Answer → List ℕ → Type 0
Judged s v = OfTheory (λ s th. OfOutcomes s v.1 th) s v.0

-- ---- `check`

-- the last of the lines has the sequent
pub record IsChecked (th : model.Theory) (rs : List RawLine) (s : Sequent) (answer : Answer) (text : List ℕ) : Type 0 where
  pub answers : answer ≡ Done
  pub says : text ≡ checked_text th (length rs) s

-- Of the lines of a certificate: they prove a sequent, or fail at a line, or there is none.
pub data OfCertificate (th : model.Theory) (rs : List RawLine) (answer : Answer) (text : List ℕ) : Type 0 where
  proves : (s : Sequent) → Proves th rs s → IsChecked th rs s answer text → OfCertificate th rs answer text
  fails : (n : ℕ) → FailsAt th rs n → IsRefusal (refusals.Certificate n) answer text → OfCertificate th rs answer text
  empty : rs ≡ [] → IsRefusal (refusals.Certificate 0) answer text → OfCertificate th rs answer text

-- no classes are made
abbrev pub Checked : RawTheory × RawCert → Answer → List ℕ → Type 0
Checked v = OfRaw (λ th. OfCertificate th v.1.lines) v.0

-- ---- a run

-- what a run that is asked for this and ends with the answer has to write, where the source held `input`
abbrev pub IsOutput : Request → List ℕ → Answer → List ℕ → Type 0
IsOutput (generate s) input answer text = OfInput Theory (OfTheory IsReport s) input answer text
IsOutput (harness s) input answer text = OfInput Theory (OfTheory IsHarness s) input answer text
IsOutput (judge s) input answer text = OfInput parts.Judge (Judged s) input answer text
IsOutput (simulate name s) input answer text = OfInput Theory (OfTheory (OfStandIn name) s) input answer text
IsOutput check input answer text = OfInput parts.Check Checked input answer text

-- what the source had left was read, but for what stands behind one byte past the longest input
abbrev pub IsRead : Option (List ℕ) → Option (List ℕ) → Type 0
IsRead (Some input) (Some left) = left ≡ drop (longest + 1) input
IsRead (Some input) None = ⊥
IsRead None left = Unit {0}

-- no more was read than one byte past the longest input
abbrev pub IsReadInPart : Option (List ℕ) → Option (List ℕ) → Type 0
IsReadInPart old new = (bytes : List ℕ) × Consumes old new bytes × (length bytes ≤ longest + 1)

-- the whole of the output was written
pub record Writes (request : Request) (answer : Answer) (left old new : Option (List ℕ)) : Type 0 where
  pub text : List ℕ
  pub output : IfSome left (λ input. IsOutput request input answer text)
  pub appended : Appends old new text

-- exactly the first `written` bytes of an output were written
pub record WritesFront (request : Request) (written : ℕ) (left old new : Option (List ℕ)) : Type 0 where
  pub answer : Answer
  pub text : List ℕ
  pub output : IfSome left (λ input. IsOutput request input answer text)
  pub part : written < length text
  pub appended : Appends old new (take written text)

-- what an answer to a request says of the bytes: `left` and `left'` are those that the source has left before and after the run, `old`
-- and `new` those that the sink has taken
abbrev pub HasBytes : Request → Answer → Option (List ℕ) → Option (List ℕ) → Option (List ℕ) → Option (List ℕ) → Type 0
HasBytes request Done left left' old new = IsRead left left' × Writes request Done left old new
HasBytes request TestsFailed left left' old new = IsRead left left' × Writes request TestsFailed left old new
HasBytes request (Refused refusal) left left' old new = IsRead left left' × Writes request (Refused refusal) left old new
HasBytes request (Limit name) left left' old new = IsRead left left' × Writes request (Limit name) left old new
HasBytes request (WriteFault written) left left' old new = IsRead left left' × WritesFront request written left old new
HasBytes request Usage left left' old new = Unit {0}
HasBytes request ReadFault left left' old new = IsReadInPart left left'
HasBytes request Memory left left' old new = IsReadInPart left left'

-- nothing is written at these answers
abbrev pub IsSilent : Answer → Type 0
IsSilent Usage = Unit {0}
IsSilent ReadFault = Unit {0}
IsSilent Memory = Unit {0}
IsSilent Done = ⊥
IsSilent TestsFailed = ⊥
IsSilent (WriteFault written) = ⊥
IsSilent (Refused refusal) = ⊥
IsSilent (Limit name) = ⊥

abbrev pub IsWriteFault : Answer → Type 0
IsWriteFault (WriteFault written) = Unit {0}
IsWriteFault Done = ⊥
IsWriteFault TestsFailed = ⊥
IsWriteFault Usage = ⊥
IsWriteFault ReadFault = ⊥
IsWriteFault Memory = ⊥
IsWriteFault (Refused refusal) = ⊥
IsWriteFault (Limit name) = ⊥

-- why no output could be made: a read fault, where the source's count rose, or want of memory, where it stayed
abbrev pub IsStop : Answer → ℕ → ℕ → Type 0
IsStop ReadFault before after = Rose before after
IsStop Memory before after = after ≡ before
IsStop Done before after = ⊥
IsStop TestsFailed before after = ⊥
IsStop Usage before after = ⊥
IsStop (WriteFault written) before after = ⊥
IsStop (Refused refusal) before after = ⊥
IsStop (Limit name) before after = ⊥

-- a fault of the source or of the sink, or want of memory
abbrev pub IsInterrupted : Answer → Type 0
IsInterrupted ReadFault = Unit {0}
IsInterrupted (WriteFault written) = Unit {0}
IsInterrupted Memory = Unit {0}
IsInterrupted Done = ⊥
IsInterrupted TestsFailed = ⊥
IsInterrupted Usage = ⊥
IsInterrupted (Refused refusal) = ⊥
IsInterrupted (Limit name) = ⊥

-- An answer that the input has is the answer of the run, unless the run is interrupted.
abbrev pub Completes : Request → List ℕ → Answer → Type 0
Completes request input answer = (a : Answer) (text : List ℕ) → IsOutput request input a text → (answer ≡ a) ⊎ IsInterrupted answer

-- a run that ends so has written a result
abbrev pub IsResult : Answer → Type 0
IsResult Done = Unit {0}
IsResult TestsFailed = Unit {0}
IsResult Usage = ⊥
IsResult ReadFault = ⊥
IsResult (WriteFault written) = ⊥
IsResult Memory = ⊥
IsResult (Refused refusal) = ⊥
IsResult (Limit name) = ⊥

-- the whole text was written, and this is true of it and of what the source held
abbrev pub IsWritten : (List ℕ → List ℕ → Type 0) → Option (List ℕ) → Option (List ℕ) → Option (List ℕ) → Type 0
IsWritten P left old new = (text : List ℕ) × IfSome left (λ input. P input text) × Appends old new text

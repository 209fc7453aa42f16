-- What is promised of the test theorem that a report prints, of the outcomes of a function that stands in, and of the sequent that a
-- certificate proves.
use Rattle.std.specs.Prelude.{ℕ, suc, ◌≡◌, false, ◌⊎◌, List, [], ◌∷◌, ◌++◌, Option, Some, None, length, map}
use Rattle.tg_model.specs.Formula.{Sequent}
use Rattle.tg_model.specs.Theory.{Theory}
use Rattle.tg_model.specs.Table.{Table, IsTable}
use Rattle.tg_model.specs.Denotation.{den}
use Rattle.tg_model.specs.Filling.{fill}
use Rattle.tg_model.specs.Value.{boolean}
use Rattle.tg_term.specs.declared.classes.Outcome.{Outcome}
use Rattle.tg_grammar.specs.declared.certificates.RawCert.{RawCert}
use Rattle.tg_grammar.specs.declared.outcomes.RawOutcomes.{RawOutcomes}
use Rattle.tg_types.specs.declared.verdicts.Verdict.TheVariants.{Passed, Failed}
use Rattle.tg_verdict.specs.Records.{AreOutcomes}
use Rattle.tg_model.specs.Truth.{AllHold, IsTrueOn, SatisfiesSpecification}
use Rattle.tg_types.specs.declared.options.Settings.{Settings}
use Rattle.tg_accept.specs.Declared.{nothing}
use Rattle.tg_accept.specs.Theories.{IsTheoryOf}
use Rattle.tg_grammar.specs.declared.declarations.RawTheory.{RawTheory}
use Rattle.tg_grammar.specs.Parts as parts
use Rattle.tg_calculus.specs.Derivation.{Derives}
use Rattle.tg_calculus.specs.Theorem.{IsTheorem}
use Rattle.tg_kernel.specs.Books.{IsTrueEverywhere}
use Rattle.tg_cert.specs.Certificates.{Proves}
use Rattle.tg_hyps.specs.Hypotheses.{Class}
use Rattle.tg_infer.specs.View.{raw_declaration}
use Rattle.tg_derive.specs.Classes.{AreClasses}
use Rattle.tg_derive.specs.Theorem.{Choice, theorem_of, assumptions_of}
use Rattle.tg_cmd.specs.declared.answer.Answer.{Answer}
use Rattle.tg_cmd.specs.declared.answer.LimitName.TheVariants.{Input, Nesting}
use Rattle.tg_cmd.specs.Causes.{IsLimit}
use Rattle.tg_cmd.specs.CheckedLines.{checked_text}
use Rattle.tg_cmd.specs.Data.{choices_by_data}
use Rattle.tg_harness.specs.OutcomeTexts.{outcomes_text}
use Rattle.tg_harness.specs.Tests.{Record, record_of}
use Rattle.tg_cmd.specs.Judging.{recorded, verdict_of, verdicts_from, choices_by_verdicts, HasOutcome}
use Rattle.tg_cmd.specs.Lines.{report_on, judged_report_on}
use Rattle.tg_cmd.specs.Output.{tests_of, IsJudgement, IsOutput}
use Rattle.tg_cmd.specs.Reading.{IsTextOf}
use Rattle.tg_cmd.specs.Requests.{judge}
use Rattle.tg_lex.specs.Laws.{EndsInLine}
use Rattle.tg_cmd.specs.StandIn.{StandsIn, simulated}
use Rattle.tg_cmd.specs.Tests.{tests_by_data}

-- The theorem of these classes and choices is true on every table; and on every table where the specification holds, so does each
-- hypothesis that no test shows, each uniformity, open class and regularity. The theorem has a derivation by the rules of the calculus,
-- its hypotheses compared as sets.
pub record IsTrueTheorem (th : Theory) (k : ℕ) (cs : List Class) (xs : List Choice) : Type 0 where
  pub theorem : (tb : Table) → IsTable th tb → IsTrueOn th tb (theorem_of th k cs xs)
  pub necessary : (tb : Table) → IsTable th tb → SatisfiesSpecification th tb → AllHold th tb [] (assumptions_of th k cs xs)
  pub derivable : IsTheorem th [] (theorem_of th k cs xs).hypotheses (theorem_of th k cs xs).goal

-- The text is the report on the theory that the input reads as, with its classes, and its theorem is true.
pub record PrintsTheorem (s : Settings) (input text : List ℕ) : Type 0 where
  pub read : RawTheory
  pub theory : Theory
  pub classes : List Class
  pub reads : IsTextOf parts.Theory input read
  pub accepted : IsTheoryOf read.name nothing (map raw_declaration read.decls) theory
  pub are_classes : AreClasses theory s.depth classes
  pub printed : text ≡ report_on theory s classes
  pub true_theorem : IsTrueTheorem theory s.depth classes (choices_by_data theory s classes)

-- Of each class that is judged passed the table has the outcome.
abbrev pub HasPassed : Theory → Table → ℕ → List Class → List Choice → List Record → Type 0
HasPassed th tb n (c ∷ cs) (x ∷ xs) rs =
    (verdict_of th c x (recorded rs n) ≡ Passed → HasOutcome tb c x (recorded rs n)) × HasPassed th tb (suc n) cs xs rs
HasPassed th tb n _ _ rs = Unit {0}

-- The class is judged failed, so the specification is False at its datum on every table that has its outcome.
abbrev pub IsRefuted : Theory → Class → Choice → Option Record → Type 0
IsRefuted th c None o = Unit {0}
IsRefuted th c (Some vs) o = verdict_of th c (Some vs) o ≡ Failed → (tb : Table) → IsTable th tb → HasOutcome tb c (Some vs) o
    → den th tb (fill vs c.inputs) [] th.specification ≡ boolean false

abbrev pub EachIsRefuted : Theory → ℕ → List Class → List Choice → List Record → Type 0
EachIsRefuted th n (c ∷ cs) (x ∷ xs) rs = IsRefuted th c x (recorded rs n) × EachIsRefuted th (suc n) cs xs rs
EachIsRefuted th n _ _ rs = Unit {0}

-- What a run has shown that judges classes with these data by what is recorded. The printed theorem is true on every table. On every
-- table that has the outcomes that are judged passed, the specification holds if the printed hypotheses do that aren't outcomes; and it
-- implies each of these on every table. Where an outcome is judged failed, the specification is False at its datum on every table that
-- has it.
pub record IsHeadline (th : Theory) (k : ℕ) (cs : List Class) (xs : List Choice) (rs : List Record) : Type 0 where
  pub true_theorem : IsTrueTheorem th k cs (choices_by_verdicts xs (verdicts_from th 1 cs xs rs))
  pub specification : (tb : Table) → IsTable th tb → HasPassed th tb 1 cs xs rs
      → AllHold th tb [] (assumptions_of th k cs (choices_by_verdicts xs (verdicts_from th 1 cs xs rs))) → SatisfiesSpecification th tb
  pub refuted : EachIsRefuted th 1 cs xs rs

-- The text is the report on the theory that the input reads as, with its classes, by the outcomes that it reads as, and the headline is
-- true of them.
pub record PrintsHeadline (s : Settings) (input text : List ℕ) : Type 0 where
  pub read : RawTheory × RawOutcomes
  pub theory : Theory
  pub classes : List Class
  pub outcomes : List Outcome
  pub reads : IsTextOf parts.Judge input read
  pub accepted : IsTheoryOf read.0.name nothing (map raw_declaration read.0.decls) theory
  pub are_classes : AreClasses theory s.depth classes
  pub are_outcomes : AreOutcomes theory s (tests_of s theory classes) read.1 outcomes
  pub printed : text ≡ judged_report_on theory s classes (map record_of outcomes)
  pub headline : IsHeadline theory s.depth classes (choices_by_data theory s classes) (map record_of outcomes)

-- `judge` has judged the classes by just what is recorded, or the input passes the limit of its length or of its nesting.
pub data IsJudgedBy (s : Settings) (th : Theory) (cs : List Class) (rs : List Record) (answer : Answer) (report : List ℕ) : Type 0 where
  judged : IsJudgement s th cs rs answer report → IsJudgedBy s th cs rs answer report
  too_long : IsLimit Input answer report → IsJudgedBy s th cs rs answer report
  too_nested : IsLimit Nesting answer report → IsJudgedBy s th cs rs answer report

-- the text behind the input, on a line of its own: LF stands between them, or ends the input
abbrev pub IsBehind : List ℕ → List ℕ → List ℕ → Type 0
IsBehind input text whole = (whole ≡ input ++ 10 ∷ text) ⊎ (EndsInLine input × (whole ≡ input ++ text))

-- The text is that of what is recorded of a function that stands in, on the theory that the input reads as, with its classes. What
-- `judge` with the same settings has to write of the input with the text behind it is by just what is recorded.
pub record PrintsOutcomes (name : List ℕ) (s : Settings) (input text : List ℕ) : Type 0 where
  pub read : RawTheory
  pub theory : Theory
  pub classes : List Class
  pub function : ℕ
  pub reads : IsTextOf parts.Theory input read
  pub accepted : IsTheoryOf read.name nothing (map raw_declaration read.decls) theory
  pub are_classes : AreClasses theory s.depth classes
  pub stands_in : StandsIn theory name function
  pub printed : text ≡ outcomes_text theory s (simulated theory function (tests_by_data theory s classes))
  pub judged_by : (whole : List ℕ) → IsBehind input text whole → (answer : Answer) (report : List ℕ)
      → IsOutput (judge s) whole answer report
      → IsJudgedBy s theory classes (simulated theory function (tests_by_data theory s classes)) answer report

-- The text has the sequent that the certificate proves, on the theory that both read as. Whoever wrote the certificate, the sequent has a
-- derivation by the rules of the calculus, and is true at all values of its variables on every table.
pub record PrintsChecked (input text : List ℕ) : Type 0 where
  pub read : RawTheory × RawCert
  pub theory : Theory
  pub sequent : Sequent
  pub reads : IsTextOf parts.Check input read
  pub accepted : IsTheoryOf read.0.name nothing (map raw_declaration read.0.decls) theory
  pub proves : Proves theory read.1.lines sequent
  pub printed : text ≡ checked_text theory (length read.1.lines) sequent
  pub derivable : Derives theory sequent
  pub truth : IsTrueEverywhere theory sequent

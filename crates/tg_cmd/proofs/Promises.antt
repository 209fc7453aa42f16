-- The promises on what is printed, of the output of a run.
use Rattle.std.proofs.Common.{ℕ, ◌≡◌, List, map, Option, Some, None, IfSome, subst}
use Rattle.std.specs.Io.KnownBytes.{Appends}
use Rattle.tg_accept.proofs.AcceptedTheories.{theory_is_accepted}
use Rattle.tg_grammar.specs.declared.declarations.RawTheory.{RawTheory}
use Rattle.tg_cert.proofs.CertificateLaws.{proved_is_derivable, proved_is_true}
use Rattle.tg_grammar.specs.declared.certificates.RawCert.{RawCert}
use Rattle.tg_grammar.specs.declared.outcomes.RawOutcomes.{RawOutcomes}
use Rattle.tg_grammar.specs.Parts.{Part, Value}
use Rattle.tg_grammar.specs.Parts as parts
use Rattle.tg_infer.specs.View.{raw_declaration}
use Rattle.tg_types.specs.declared.options.Settings.{Settings}
use Rattle.tg_cmd.specs.declared.answer.Answer.{Answer}
use Rattle.tg_cmd.specs.declared.answer.Answer.TheVariants.{Done}
use Rattle.tg_cmd.specs.Requests.{generate, judge, check}
use Rattle.tg_accept.specs.Checks as checks
use Rattle.tg_accept.specs.Checks.{Kind}
use Rattle.tg_cmd.specs.Answers.{answer_for}
use Rattle.tg_cmd.specs.Causes.{refused, accepted, too_nested, no_text, a_text, no_token, too_large, lexed, OfInput, too_long, whole}
use Rattle.tg_cmd.specs.Output.{limited, classes, OfTheory, IsReport, IsOutcomeLine, unread, read, Judged, proves, fails, empty, Checked, IsOutput, IsResult, IsWritten}
use Rattle.tg_cmd.specs.Promises.{PrintsTheorem, PrintsHeadline, PrintsChecked}
use Rattle.tg_cmd.specs.Reading.{IsTextOf}
use Rattle.tg_harness.specs.Tests.{record_of}
use Rattle.tg_verdict.specs.declared.errors.OutcomeErr.{OutcomeErr}
use Rattle.tg_verdict.specs.declared.errors.OutcomeErr.TheVariants as errors
use Rattle.tg_cmd.proofs.SmallData.{AreInRange}
use Rattle.tg_cmd.proofs.Headline.{headline}
use Rattle.tg_cmd.proofs.TrueTheorems.{true_theorem}

-- no line in place of a result ends a run that is done
pub no_result : (k : Kind) (place : ℕ) → IsResult (answer_for k place) → ⊥
no_result checks.term_size place h = h
no_result checks.name place h = h
no_result checks.typing place h = h
no_result checks.ambiguous place h = h
no_result checks.shape place h = h
no_result checks.program place h = h

abbrev is_result : Answer → Answer → Type 0
is_result a b = IsResult a → IsResult b

pub moved : (a b : Answer) → a ≡ b → IsResult a → IsResult b
moved a b e h = subst IsResult e h

-- a result is of a text, and this comes of it
pub result_of : (n : Part) (Of : Value n → Answer → List ℕ → Type 0) (input : List ℕ) (answer : Answer) (text : List ℕ) → IsResult answer
    → OfInput n Of input answer text → (v : Value n) × IsTextOf n input v × Of v answer text
result_of n Of input answer text r (too_long h line) = absurd (moved _ _ line.answers r)
result_of n Of input answer text r (whole short (no_token place h line)) = absurd (moved _ _ line.answers r)
result_of n Of input answer text r (whole short (too_large h line)) = absurd (moved _ _ line.answers r)
result_of n Of input answer text r (whole short (lexed ts q (too_nested h line))) = absurd (moved _ _ line.answers r)
result_of n Of input answer text r (whole short (lexed ts q (no_text place h i line))) = absurd (moved _ _ line.answers r)
result_of n Of input answer text r (whole short (lexed ts q (a_text v h i g))) = (v, record { tokens = ts; lexed = q; shallow = h; text = i }, g)

module _ (s : Settings) (range : AreInRange s) (input text : List ℕ) where
  of_raw : (raw : RawTheory) → IsTextOf parts.Theory input raw → OfTheory IsReport s raw Done text → PrintsTheorem s input text
  of_raw raw reads (refused place k h line) = absurd (no_result k place (moved _ _ line.answers tt))
  of_raw raw reads (accepted th h (limited l i line)) = absurd (moved _ _ line.answers tt)
  of_raw raw reads (accepted th h (classes cs i line)) = record {
    read = raw;
    theory = th;
    classes = cs;
    reads = reads;
    accepted = h;
    are_classes = i;
    printed = line.says;
    true_theorem = true_theorem th (theory_is_accepted raw.name (map raw_declaration raw.decls) th h) s s.depth cs range range.depth i;
  }

  pub prints_theorem : IsOutput (generate s) input Done text → PrintsTheorem s input text
  prints_theorem h = let r = result_of parts.Theory (OfTheory IsReport s) input Done text tt h in of_raw r.0 r.1 r.2

  no_line : (e : OutcomeErr) (answer : Answer) → IsResult answer → IsOutcomeLine e answer text → ⊥
  no_line (errors.Settings stated used) answer r line = moved _ _ line.answers r
  no_line (errors.Unknown n) answer r line = moved _ _ line.answers r
  no_line (errors.Repeated n) answer r line = moved _ _ line.answers r
  no_line (errors.BadAnswer n) answer r line = moved _ _ line.answers r
  no_line errors.Memory answer r line = line

  of_judged : (answer : Answer) → IsResult answer → (v : RawTheory × RawOutcomes) → IsTextOf parts.Judge input v → Judged s v answer text → PrintsHeadline s input text
  of_judged answer r v reads (refused place k h line) = absurd (no_result k place (moved _ _ line.answers r))
  of_judged answer r v reads (accepted th h (limited l i line)) = absurd (moved _ _ line.answers r)
  of_judged answer r v reads (accepted th h (classes cs i (unread e j line))) = absurd (no_line e answer r line)
  of_judged answer r v reads (accepted th h (classes cs i (read os j line))) = record {
    read = v;
    theory = th;
    classes = cs;
    outcomes = os;
    reads = reads;
    accepted = h;
    are_classes = i;
    are_outcomes = j;
    printed = line.says;
    headline = headline th (theory_is_accepted v.0.name (map raw_declaration v.0.decls) th h) s.depth cs i s (map record_of os) range range.depth;
  }

  pub prints_headline : (answer : Answer) → IsResult answer → IsOutput (judge s) input answer text → PrintsHeadline s input text
  prints_headline answer r h = let q = result_of parts.Judge (Judged s) input answer text r h in of_judged answer r q.0 q.1 q.2

module _ (input text : List ℕ) where
  of_checked : (v : RawTheory × RawCert) → IsTextOf parts.Check input v → Checked v Done text → PrintsChecked input text
  of_checked v reads (refused place k h line) = absurd (no_result k place (moved _ _ line.answers tt))
  of_checked v reads (accepted th h (fails n i line)) = absurd (moved _ _ line.answers tt)
  of_checked v reads (accepted th h (empty i line)) = absurd (moved _ _ line.answers tt)
  of_checked v reads (accepted th h (proves s i line)) = record {
    read = v;
    theory = th;
    sequent = s;
    reads = reads;
    accepted = h;
    proves = i;
    printed = line.says;
    derivable = proved_is_derivable th v.1.lines s i;
    truth = proved_is_true th (theory_is_accepted v.0.name (map raw_declaration v.0.decls) th h) v.1.lines s i;
  }

  pub prints_checked : IsOutput check input Done text → PrintsChecked input text
  prints_checked h = let r = result_of parts.Check Checked input Done text tt h in of_checked r.0 r.1 r.2

pub if_some : (P Q : List ℕ → Type 0) → ((input : List ℕ) → P input → Q input) → (o : Option (List ℕ)) → IfSome o P → IfSome o Q
if_some P Q f None h = tt
if_some P Q f (Some input) h = f input h

-- of what was written
pub theorem_written : (s : Settings) → AreInRange s → (text : List ℕ) (left old new : Option (List ℕ)) → IfSome left (λ input. IsOutput (generate s) input Done text)
    → Appends old new text → IsWritten (PrintsTheorem s) left old new
theorem_written s range text left old new h appended =
    (text, if_some (λ input. IsOutput (generate s) input Done text) (λ input. PrintsTheorem s input text) (λ input. prints_theorem s range input text) left h, appended)

pub headline_written : (s : Settings) → AreInRange s → (answer : Answer) (text : List ℕ) (left old new : Option (List ℕ)) → IsResult answer
    → IfSome left (λ input. IsOutput (judge s) input answer text) → Appends old new text → IsWritten (PrintsHeadline s) left old new
headline_written s range answer text left old new r h appended =
    (text, if_some (λ input. IsOutput (judge s) input answer text) (λ input. PrintsHeadline s input text) (λ input. prints_headline s range input text answer r) left h, appended)

pub checked_written : (text : List ℕ) (left old new : Option (List ℕ)) → IfSome left (λ input. IsOutput check input Done text)
    → Appends old new text → IsWritten PrintsChecked left old new
checked_written text left old new h appended =
    (text, if_some (λ input. IsOutput check input Done text) (λ input. PrintsChecked input text) (λ input. prints_checked input text) left h, appended)

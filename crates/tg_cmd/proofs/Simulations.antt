-- The outcomes of a function that stands in are read by `judge` as just these.
use Rattle.std.proofs.Common.{ℕ, ◌≡◌, ◌+◌, ◌<◌, ◌≤◌, Bool, true, false, inl, inr, List, [], ◌++◌, length, map, Option, IfSome, refl, sym, subst, arith}
use Rattle.std.specs.Prelude.{nat_lt}
use Rattle.std.specs.Io.KnownBytes.{Appends}
use Rattle.std.proofs.lemmas.Bool.{cases_Bool}
use Rattle.tg_accept.specs.Checks.{Each}
use Rattle.tg_accept.specs.Declared.{nothing}
use Rattle.tg_accept.specs.Theories.{IsTheoryOf}
use Rattle.tg_accept.proofs.AcceptedTheories.{theory_is_accepted}
use Rattle.tg_derive.specs.Classes.{AreClasses}
use Rattle.tg_derive.proofs.ClassCounts.{few_classes}
use Rattle.tg_derive.proofs.ClassTypes.{classes_typed}
use Rattle.tg_grammar.specs.declared.declarations.RawTheory.{RawTheory}
use Rattle.tg_grammar.specs.declared.outcomes.RawOutcomes.{RawOutcomes}
use Rattle.tg_grammar.specs.Parts as parts
use Rattle.tg_grammar.specs.Reading.{IsText}
use Rattle.tg_grammar.specs.Seen.{Seen, seen}
use Rattle.tg_harness.specs.OutcomeTexts.{outcome_lines, outcomes_text}
use Rattle.tg_harness.specs.ReadBack.{raw_outcomes, AreSmall}
use Rattle.tg_harness.specs.Tests.{Record, record_of}
use Rattle.tg_harness.proofs.BehindTheory.{behind_theory}
use Rattle.tg_harness.proofs.OutcomeReading.{outcomes_back}
use Rattle.tg_hyps.specs.Hypotheses.{Class}
use Rattle.tg_infer.specs.View.{raw_declaration}
use Rattle.tg_infer.proofs.TextNames.{texts_are_named}
use Rattle.tg_lex.specs.declared.token.Token.{Token}
use Rattle.tg_lex.specs.Grammar.{Reads}
use Rattle.tg_lex.specs.Load.{load_limit, load_passes}
use Rattle.tg_lex.proofs.Runs.{texts}
use Rattle.tg_model.specs.Accepted.{IsAccepted, AreDistinct, constructor_names}
use Rattle.tg_model.specs.Theory.{Theory}
use Rattle.tg_render.specs.Laws.{HasTokens}
use Rattle.tg_render.specs.Tokens.{joined}
use Rattle.tg_render.proofs.Joined.{texts_joined, texts_follow}
use Rattle.tg_theory.specs.Wholes.{IsWritten as HasNames}
use Rattle.tg_types.specs.declared.options.Settings.{Settings}
use Rattle.tg_verdict.specs.Records.{AreOutcomes}
use Rattle.tg_cmd.specs.declared.answer.Answer.{Answer}
use Rattle.tg_cmd.specs.declared.answer.Answer.TheVariants.{Done, Limit}
use Rattle.tg_cmd.specs.declared.answer.LimitName.TheVariants.{Input, Nesting}
use Rattle.tg_cmd.specs.Answers.{limit_line}
use Rattle.tg_cmd.specs.Causes.{longest, refused, accepted, too_nested, a_text, lexed, too_long, whole}
use Rattle.tg_cmd.specs.Data.{choices_by_data}
use Rattle.tg_cmd.specs.Judging.{verdicts_from}
use Rattle.tg_cmd.specs.Lines.{judged_report_on}
use Rattle.tg_cmd.specs.Output.{limited, classes, OfTheory, OfStandIn, none, stands_in, IsJudgement, ending_on, tests_of, read, Judged, IsOutput, IsWritten}
use Rattle.tg_cmd.specs.Promises as promises
use Rattle.tg_cmd.specs.Promises.{IsJudgedBy, IsBehind, PrintsOutcomes}
use Rattle.tg_cmd.specs.Reading.{IsTextOf}
use Rattle.tg_cmd.specs.Requests.{judge, simulate}
use Rattle.tg_cmd.specs.StandIn.{StandsIn, simulated}
use Rattle.tg_cmd.specs.Tests.{tests_by_data}
use Rattle.tg_cmd.proofs.OneOutput.{one_output}
use Rattle.tg_cmd.proofs.Promises.{moved, no_result, result_of, if_some}
use Rattle.tg_cmd.proofs.SimpleVariables.{filled_classes}
use Rattle.tg_cmd.proofs.SimulatedRecords.{outcome_of, records_coded, records_read, records_named}
use Rattle.tg_cmd.proofs.SmallData.{AreInRange}
use Rattle.tg_cmd.proofs.StandInAnswers.{IsAnsweredRight, data_are_simple, tests_right, all_answered}
use Rattle.tg_cmd.proofs.StandIns.{distinct_front}
use Rattle.tg_cmd.proofs.TrueTheorems.{choices_chosen}
use Rattle.tg_cmd.proofs.WrittenTheories.{theory_is_written}

above : (m n : ℕ) → nat_lt m n ≡ true → m < n
above m n e = grind (arith, e)

within : (m n : ℕ) → nat_lt m n ≡ false → n ≤ m
within m n e = grind (arith, e)

-- ---- what is recorded

module _ (s : Settings) (range : AreInRange s) (small : AreSmall s) (th : Theory) (ok : IsAccepted th) (cs : List Class)
    (are : AreClasses th s.depth cs) (name : List ℕ) (n : ℕ) (h : StandsIn th name n) where
  abbrev records : List Record
  records = simulated th n (tests_by_data th s cs)

  right : Each (IsAnsweredRight th n) (tests_by_data th s cs)
  right =
      all_answered th ok name n h (tests_by_data th s cs)
      (tests_right th ok 1 cs (choices_by_data th s cs) (classes_typed th s.depth cs ok are) (filled_classes th ok s.depth cs are)
      (choices_chosen th ok s s.depth cs are) (data_are_simple th ok s range 1 cs))

  distinct : AreDistinct (constructor_names th.datatypes)
  distinct = distinct_front (constructor_names th.datatypes) _ ok.names_differ

  are_outcomes : AreOutcomes th s (tests_of s th cs) (raw_outcomes th s records) (map outcome_of records)
  are_outcomes = record {
    settings = refl;
    records = records_read th distinct (tests_of s th cs) n 1 cs (choices_by_data th s cs) [] (λ k e. absurd cc) (λ k e. e) right;
  }

  text_of : HasNames th
      → HasTokens (outcomes_text th s records) (joined (outcome_lines th s records))
      × IsText parts.Outcomes (raw_outcomes th s records) (joined (outcome_lines th s records))
  text_of written =
      outcomes_back th s records written small
      (records_named th n 1 cs (choices_by_data th s cs) (few (few_classes th s.depth cs are)) right)
    where
      few : length cs ≤ 4096 → 1 + length cs < 18446744073709551616
      few e = omega (arith, e)

  -- ---- how `judge` takes it

  abbrev answer_to : Answer
  answer_to = ending_on (verdicts_from th 1 cs (choices_by_data th s cs) (map record_of (map outcome_of records)))

  abbrev report_of : List ℕ
  report_of = judged_report_on th s cs (map record_of (map outcome_of records))

  judgement : (answer : Answer) (report : List ℕ) → answer_to ≡ answer → report_of ≡ report → IsJudgement s th cs records answer report
  judgement answer report a e =
      subst (λ rs. IsJudgement s th cs rs answer report) (records_coded records) (record { answers = sym a; says = sym e })

  module _ (raw : RawTheory) (is : IsTheoryOf raw.name nothing (map raw_declaration raw.decls) th) where
    abbrev value : RawTheory × RawOutcomes
    value = (raw, raw_outcomes th s records)

    is_judged : Judged s value answer_to report_of
    is_judged = accepted th is (classes cs are (read (map outcome_of records) are_outcomes (record { answers = refl; says = refl })))

    module _ (bytes : List ℕ) (tokens : List Token) (reads : Reads bytes tokens) (text : IsText parts.Judge value (seen bytes tokens)) where
      abbrev Judges : Answer → List ℕ → Type 0
      Judges answer report = IsOutput (judge s) bytes answer report → IsJudgedBy s th cs records answer report

      by_one : (answer : Answer) (report : List ℕ) → IsOutput (judge s) bytes answer_to report_of → Judges answer report
      by_one answer report one other =
          let same = one_output (judge s) bytes answer_to answer report_of report one other in
          promises.judged (judgement answer report same.0 same.1)

      by_load : (b : Bool) → load_passes load_limit bytes tokens ≡ b → length bytes ≤ longest → (answer : Answer) (report : List ℕ)
          → Judges answer report
      by_load false e short answer report other =
          by_one answer report (whole short (lexed tokens reads (a_text value e text is_judged))) other
      by_load true e short answer report other =
          let nested = whole short (lexed tokens reads (too_nested e (record { answers = refl; says = refl }))) in
          let same = one_output (judge s) bytes (Limit Nesting) answer (limit_line Nesting) report nested other in
          promises.too_nested (record { answers = sym same.0; says = sym same.1 })

      judged_in : (answer : Answer) (report : List ℕ) → Judges answer report
      judged_in answer report other = elim (cases_Bool (nat_lt longest (length bytes))) [
        | inl long ↦
            let line = too_long (above longest (length bytes) long) (record { answers = refl; says = refl }) in
            let same = one_output (judge s) bytes (Limit Input) answer (limit_line Input) report line other in
            promises.too_long (record { answers = sym same.0; says = sym same.1 })
        | inr short ↦ by_load (load_passes load_limit bytes tokens) refl (within longest (length bytes) short) answer report other
      ]

-- ---- what is written

module _ (name : List ℕ) (s : Settings) (range : AreInRange s) (small : AreSmall s) (input text : List ℕ) where
  module _ (raw : RawTheory) (th : Theory) (is : IsTheoryOf raw.name nothing (map raw_declaration raw.decls) th) (cs : List Class)
      (are : AreClasses th s.depth cs) (n : ℕ) (h : StandsIn th name n) (reads : IsTextOf parts.Theory input raw)
      (says : text ≡ outcomes_text th s (simulated th n (tests_by_data th s cs))) where
    abbrev what : List Record
    what = simulated th n (tests_by_data th s cs)

    abbrev theory_tokens : List Seen
    theory_tokens = seen input reads.tokens

    abbrev outcome_tokens : List Seen
    outcome_tokens = joined (outcome_lines th s what)

    accepted_theory : IsAccepted th
    accepted_theory = theory_is_accepted raw.name (map raw_declaration raw.decls) th is

    names : HasNames th
    names =
        let named = texts_are_named.alone input reads.tokens raw (texts input reads.tokens (length input) reads.lexed) reads.text in
        theory_is_written raw.name (map raw_declaration raw.decls) th named.name named.declared is

    tokens_behind : (bytes : List ℕ) → IsBehind input text bytes → HasTokens text outcome_tokens
        → HasTokens bytes (theory_tokens ++ outcome_tokens)
    tokens_behind bytes (inl e) h =
        subst (λ b. HasTokens b (theory_tokens ++ outcome_tokens)) (sym e)
        (texts_joined input text theory_tokens outcome_tokens (reads.tokens, reads.lexed, refl) h)
    tokens_behind bytes (inr (ends, e)) h =
        subst (λ b. HasTokens b (theory_tokens ++ outcome_tokens)) (sym e)
        (texts_follow input text theory_tokens outcome_tokens ends (reads.tokens, reads.lexed, refl) h)

    both_judged : (bytes : List ℕ) → IsBehind input text bytes → (answer : Answer) (report : List ℕ)
        → IsOutput (judge s) bytes answer report
        → IsJudgedBy s th cs what answer report
    both_judged bytes behind answer report other =
        let outcomes = text_of s range small th accepted_theory cs are name n h names in
        let both = tokens_behind bytes behind (subst (λ b. HasTokens b outcome_tokens) (sym says) outcomes.0) in
        let v = value s range small th accepted_theory cs are name n h raw is in
        let whole_text = behind_theory v theory_tokens outcome_tokens reads.text outcomes.1 in
        judged_in s range small th accepted_theory cs are name n h raw is bytes both.0 both.1
        (subst (IsText parts.Judge v) (sym both.2) whole_text) answer report other

  of_raw : (raw : RawTheory) → IsTextOf parts.Theory input raw → OfTheory (OfStandIn name) s raw Done text
      → PrintsOutcomes name s input text
  of_raw raw reads (refused place k h line) = absurd (no_result k place (moved _ _ line.answers tt))
  of_raw raw reads (accepted th is (limited l i line)) = absurd (moved _ _ line.answers tt)
  of_raw raw reads (accepted th is (classes cs are (none z line))) = absurd (moved _ _ line.answers tt)
  of_raw raw reads (accepted th is (classes cs are (stands_in n h line))) = record {
    read = raw;
    theory = th;
    classes = cs;
    function = n;
    reads = reads;
    accepted = is;
    are_classes = are;
    stands_in = h;
    printed = line.says;
    judged_by = both_judged raw th is cs are n h reads line.says;
  }

  pub prints_outcomes : IsOutput (simulate name s) input Done text → PrintsOutcomes name s input text
  prints_outcomes h = let r = result_of parts.Theory (OfTheory (OfStandIn name) s) input Done text tt h in of_raw r.0 r.1 r.2

pub outcomes_written : (name : List ℕ) (s : Settings) → AreInRange s → AreSmall s → (text : List ℕ) (left old new : Option (List ℕ))
    → IfSome left (λ input. IsOutput (simulate name s) input Done text) → Appends old new text
    → IsWritten (PrintsOutcomes name s) left old new
outcomes_written name s range small text left old new h appended = (
  text,
  if_some (λ input. IsOutput (simulate name s) input Done text) (λ input. PrintsOutcomes name s input text)
      (λ input. prints_outcomes name s range small input text) left h,
  appended,
)

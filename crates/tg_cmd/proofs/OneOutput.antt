-- An input has one output.
use Rattle.std.proofs.Common.{ℕ, ◌≡◌, inl, inr, true, false, List, [], length, map, Err, refl, sym, ◌∙◌, ap, subst, arith}
use Rattle.tg_accept.specs.Declared.{nothing}
use Rattle.tg_accept.proofs.AcceptedTheories.{theory_is_accepted}
use Rattle.tg_accept.proofs.OneAnswer.{one_refusal, one_theory, not_both as never_both}
use Rattle.tg_cert.specs.Certificates.{Proves, FailsAt}
use Rattle.tg_cert.proofs.CertificateLaws as certificates
use Rattle.tg_derive.specs.Work as work
use Rattle.tg_derive.proofs.OneAnswer.{one_answer}
use Rattle.tg_grammar.specs.declared.certificates.RawCert.{RawCert}
use Rattle.tg_grammar.specs.declared.certificates.RawLine.{RawLine}
use Rattle.tg_grammar.specs.declared.declarations.RawTheory.{RawTheory}
use Rattle.tg_grammar.specs.declared.outcomes.RawOutcomes.{RawOutcomes}
use Rattle.tg_grammar.specs.Parts.{Part, Value, Theory}
use Rattle.tg_grammar.specs.Parts as parts
use Rattle.tg_grammar.specs.Seen.{seen, declarations}
use Rattle.tg_grammar.proofs.Readings.{one_value, one_fault, not_both}
use Rattle.tg_harness.specs.OutcomeTexts.{outcomes_text}
use Rattle.tg_hyps.specs.Hypotheses.{Class}
use Rattle.tg_infer.specs.View.{raw_declaration}
use Rattle.tg_lex.specs.declared.token.Token.{Token}
use Rattle.tg_lex.specs.Grammar.{Reads}
use Rattle.tg_lex.specs.Answers.{TellsFault}
use Rattle.tg_lex.specs.declared.token.LexErr.TheVariants as lex
use Rattle.tg_lex.proofs.Unique.{one_reading, one_first_fault, no_wrong_byte, no_open_comment, no_large_number}
use Rattle.tg_model.specs.Accepted.{IsAccepted}
use Rattle.tg_model.specs.Theory as model
use Rattle.tg_types.specs.declared.options.Settings.{Settings}
use Rattle.tg_cmd.specs.declared.answer.Answer.{Answer}
use Rattle.tg_cmd.specs.declared.answer.Answer.TheVariants.{Refused, Limit}
use Rattle.tg_cmd.specs.declared.answer.Refusal.{Refusal}
use Rattle.tg_cmd.specs.declared.answer.Refusal.TheVariants as refusals
use Rattle.tg_cmd.specs.declared.answer.LimitName.{LimitName}
use Rattle.tg_cmd.specs.Answers.{refusal_line, limit_line, answer_for, line_for}
use Rattle.tg_cmd.specs.Causes.{IsRefusal, IsLimit, OfRaw, refused, accepted, OfTokens, too_nested, no_text, a_text, OfBytes, no_token, too_large, lexed, OfInput, too_long, whole}
use Rattle.tg_cmd.specs.CheckedLines.{checked_text}
use Rattle.tg_cmd.specs.Data.{choices_by_data}
use Rattle.tg_cmd.specs.Judging.{verdicts_from}
use Rattle.tg_cmd.specs.Lines.{judged_report_on}
use Rattle.tg_cmd.specs.Requests.{Request, generate, harness, judge, simulate, check}
use Rattle.tg_cmd.specs.StandIn.{simulated}
use Rattle.tg_cmd.specs.Tests.{tests_by_data}
use Rattle.tg_cmd.specs.Output.{limit_of, OfClasses, limited, classes, OfTheory, IsReport, IsHarness, OfStandIn, none, stands_in, ending_on, tests_of, OfOutcomes, unread, read, Judged, OfCertificate, proves, fails, empty, Checked, IsOutput}
use Rattle.tg_cmd.proofs.StandIns.{one_stand_in}
use Rattle.tg_cmd.proofs.RecordLaws.{not_read, one_refusal as one_outcome_refusal, one_reading as one_recording}
use Rattle.tg_cmd.specs.Reading.{HasTokenFault, IsTooLarge}

-- one answer and one text
abbrev Only : (Answer → List ℕ → Type 0) → Type 0
Only Of = (a b : Answer) (t u : List ℕ) → Of a t → Of b u → (a ≡ b) × (t ≡ u)

refusals_agree : (r q : Refusal) → r ≡ q → (a b : Answer) (t u : List ℕ) → IsRefusal r a t → IsRefusal q b u → (a ≡ b) × (t ≡ u)
refusals_agree r q e a b t u h k = (h.answers ∙ ap Refused e ∙ sym k.answers, h.says ∙ ap refusal_line e ∙ sym k.says)

limits_agree : (l m : LimitName) → l ≡ m → (a b : Answer) (t u : List ℕ) → IsLimit l a t → IsLimit m b u → (a ≡ b) × (t ≡ u)
limits_agree l m e a b t u h k = (h.answers ∙ ap Limit e ∙ sym k.answers, h.says ∙ ap limit_line e ∙ sym k.says)

-- ---- a theory as it is read

of_raw : (Of : model.Theory → Answer → List ℕ → Type 0) → ((th : model.Theory) → IsAccepted th → Only (Of th)) → (raw : RawTheory) → Only (OfRaw Of raw)
of_raw Of only raw a b t u (refused p k h f) (refused q l i g) =
    let same = one_refusal nothing 1 (map raw_declaration raw.decls) p q k l h i in (
      f.answers ∙ (λ j. answer_for (same.1 j) (same.0 j)) ∙ sym g.answers,
      f.says ∙ (λ j. line_for (same.1 j) (same.0 j)) ∙ sym g.says,
    )
of_raw Of only raw a b t u (refused p k h f) (accepted th i g) = absurd (never_both raw.name nothing 1 (map raw_declaration raw.decls) th p k i h)
of_raw Of only raw a b t u (accepted th h f) (refused q l i g) = absurd (never_both raw.name nothing 1 (map raw_declaration raw.decls) th q l h i)
of_raw Of only raw a b t u (accepted th h f) (accepted other i g) =
    let same = one_theory raw.name nothing (map raw_declaration raw.decls) th other h i in
    only other (theory_is_accepted raw.name (map raw_declaration raw.decls) other i) a b t u (subst (λ x. Of x a t) same f) g

-- ---- classes

abbrev found_of : work.Worked Class → List Class
found_of (work.done cs left) = cs
found_of (work.passed l) = []

abbrev limit_in : work.Worked Class → work.Limit
limit_in (work.done cs left) = work.patterns
limit_in (work.passed l) = l

of_classes : (Of : List Class → Answer → List ℕ → Type 0) → ((cs : List Class) → Only (Of cs)) → (k : ℕ) (th : model.Theory) → Only (OfClasses Of k th)
of_classes Of only k th a b t u (limited l h f) (limited m i g) =
    limits_agree (limit_of l) (limit_of m) (ap (λ o. limit_of (limit_in o)) (one_answer th k (work.passed l) (work.passed m) h i)) a b t u f g
of_classes Of only k th a b t u (limited l h f) (classes cs i g) =
    let wrong : work.passed l ≡ work.done cs i.0 = one_answer th k (work.passed l) (work.done cs i.0) h i.1 in absurd cc
of_classes Of only k th a b t u (classes cs h f) (limited m i g) =
    let wrong : work.done cs h.0 ≡ work.passed m = one_answer th k (work.done cs h.0) (work.passed m) h.1 i in absurd cc
of_classes Of only k th a b t u (classes cs h f) (classes ds i g) =
    let same = ap found_of (one_answer th k (work.done cs h.0) (work.done ds i.0) h.1 i.1) in
    only ds a b t u (subst (λ x. Of x a t) same f) g

-- ---- tokens, bytes and the whole input

-- the three faults of a lexer
abbrev byte : (f : _) × TellsFault f 0 [] (Err (lex.Byte 0 []))
byte = (_, (refl, refl, refl))

abbrev comment : (f : _) × TellsFault f 0 [] (Err (lex.Comment 0 []))
comment = (_, (refl, refl, refl))

abbrev number : (f : _) × TellsFault f 0 [] (Err (lex.Number 0 []))
number = (_, (refl, refl, refl))

module _ (n : Part) (Of : Value n → Answer → List ℕ → Type 0) (only : (v : Value n) → Only (Of v)) where
  of_tokens : (bytes : List ℕ) (tokens : List Token) → Only (OfTokens n Of bytes tokens)
  of_tokens bytes tokens a b t u (too_nested h f) (too_nested i g) = limits_agree _ _ refl a b t u f g
  of_tokens bytes tokens a b t u (too_nested h f) (no_text p i j g) = let wrong : true ≡ false = sym h ∙ i in absurd cc
  of_tokens bytes tokens a b t u (too_nested h f) (a_text v i j g) = let wrong : true ≡ false = sym h ∙ i in absurd cc
  of_tokens bytes tokens a b t u (no_text p h j f) (too_nested i g) = let wrong : true ≡ false = sym i ∙ h in absurd cc
  of_tokens bytes tokens a b t u (no_text p h j f) (no_text q i k g) =
      let same = one_fault n (seen bytes tokens) j.0 k.0 j.1 k.1 j.2 k.2 in
      let places : p ≡ q = j.3 ∙ ap declarations same.0 ∙ sym k.3 in
      refusals_agree (refusals.Form p) (refusals.Form q) (ap refusals.Form places) a b t u f g
  of_tokens bytes tokens a b t u (no_text p h j f) (a_text v i k g) = absurd (not_both n v (seen bytes tokens) j.0 j.1 k j.2)
  of_tokens bytes tokens a b t u (a_text v h j f) (too_nested i g) = let wrong : true ≡ false = sym i ∙ h in absurd cc
  of_tokens bytes tokens a b t u (a_text v h j f) (no_text p i k g) = absurd (not_both n v (seen bytes tokens) k.0 k.1 j k.2)
  of_tokens bytes tokens a b t u (a_text v h j f) (a_text w i k g) =
      let same = one_value n v w (seen bytes tokens) j k in
      only w a b t u (subst (λ x. Of x a t) same f) g

  one_place : (bytes : List ℕ) (p q : ℕ) → HasTokenFault bytes p → HasTokenFault bytes q → p ≡ q
  one_place bytes p q (at, before, inl h, e) (at', before', inl i, f) =
      e ∙ ap (λ ts. declarations (seen bytes ts)) (one_first_fault bytes before before' byte.0 byte.0 at at' h i).2 ∙ sym f
  one_place bytes p q (at, before, inl h, e) (at', before', inr i, f) =
      e ∙ ap (λ ts. declarations (seen bytes ts)) (one_first_fault bytes before before' byte.0 comment.0 at at' h i).2 ∙ sym f
  one_place bytes p q (at, before, inr h, e) (at', before', inl i, f) =
      e ∙ ap (λ ts. declarations (seen bytes ts)) (one_first_fault bytes before before' comment.0 byte.0 at at' h i).2 ∙ sym f
  one_place bytes p q (at, before, inr h, e) (at', before', inr i, f) =
      e ∙ ap (λ ts. declarations (seen bytes ts)) (one_first_fault bytes before before' comment.0 comment.0 at at' h i).2 ∙ sym f

  small : (bytes : List ℕ) (p : ℕ) → HasTokenFault bytes p → IsTooLarge bytes → ⊥
  small bytes p (at, before, inl h, e) (at', before', i) =
      let wrong : byte.0 ≡ number.0 = (one_first_fault bytes before before' byte.0 number.0 at at' h i).0 in absurd cc
  small bytes p (at, before, inr h, e) (at', before', i) =
      let wrong : comment.0 ≡ number.0 = (one_first_fault bytes before before' comment.0 number.0 at at' h i).0 in absurd cc

  no_place : (bytes : List ℕ) (p : ℕ) (tokens : List Token) → Reads bytes tokens → HasTokenFault bytes p → ⊥
  no_place bytes p tokens r (at, before, inl h, e) = no_wrong_byte bytes tokens before at r h
  no_place bytes p tokens r (at, before, inr h, e) = no_open_comment bytes tokens before at r h

  of_bytes : (bytes : List ℕ) → Only (OfBytes n Of bytes)
  of_bytes bytes a b t u (no_token p h f) (no_token q i g) =
      refusals_agree (refusals.Form p) (refusals.Form q) (ap refusals.Form (one_place bytes p q h i)) a b t u f g
  of_bytes bytes a b t u (no_token p h f) (too_large i g) = absurd (small bytes p h i)
  of_bytes bytes a b t u (no_token p h f) (lexed us i g) = absurd (no_place bytes p us i h)
  of_bytes bytes a b t u (too_large h f) (no_token q i g) = absurd (small bytes q i h)
  of_bytes bytes a b t u (too_large h f) (too_large i g) = limits_agree _ _ refl a b t u f g
  of_bytes bytes a b t u (too_large h f) (lexed us i g) = absurd (no_large_number bytes us h.1 h.0 i h.2)
  of_bytes bytes a b t u (lexed ts h f) (no_token q i g) = absurd (no_place bytes q ts h i)
  of_bytes bytes a b t u (lexed ts h f) (too_large i g) = absurd (no_large_number bytes ts i.1 i.0 h i.2)
  of_bytes bytes a b t u (lexed ts h f) (lexed us i g) =
      let same = one_reading bytes ts us h i in
      of_tokens bytes us a b t u (subst (λ x. OfTokens n Of bytes x a t) same f) g

  pub of_input : (bytes : List ℕ) → Only (OfInput n Of bytes)
  of_input bytes a b t u (too_long h f) (too_long i g) = limits_agree _ _ refl a b t u f g
  of_input bytes a b t u (too_long h f) (whole i g) = absurd (omega (arith, h, i))
  of_input bytes a b t u (whole h f) (too_long i g) = absurd (omega (arith, h, i))
  of_input bytes a b t u (whole h f) (whole i g) = of_bytes bytes a b t u f g

-- ---- the commands

of_theory : (Of : Settings → model.Theory → List Class → Answer → List ℕ → Type 0)
    → ((s : Settings) (th : model.Theory) → IsAccepted th → (cs : List Class) → Only (Of s th cs)) → (s : Settings) (raw : RawTheory) → Only (OfTheory Of s raw)
of_theory Of only s raw = of_raw _ (λ th ok. of_classes _ (only s th ok) s.depth th) raw

one_report : (s : Settings) (th : model.Theory) → IsAccepted th → (cs : List Class) → Only (IsReport s th cs)
one_report s th ok cs a b t u h k = (h.answers ∙ sym k.answers, h.says ∙ sym k.says)

one_harness : (s : Settings) (th : model.Theory) → IsAccepted th → (cs : List Class) → Only (IsHarness s th cs)
one_harness s th ok cs a b t u h k = (h.answers ∙ sym k.answers, h.says ∙ sym k.says)

one_simulation : (name : List ℕ) (s : Settings) (th : model.Theory) → IsAccepted th → (cs : List Class) → Only (OfStandIn name s th cs)
one_simulation name s th ok cs a b t u (none h f) (none i g) = refusals_agree _ _ refl a b t u f g
one_simulation name s th ok cs a b t u (none h f) (stands_in n i g) = absurd (h n i)
one_simulation name s th ok cs a b t u (stands_in n h f) (none i g) = absurd (i n h)
one_simulation name s th ok cs a b t u (stands_in n h f) (stands_in m i g) =
    (f.answers ∙ sym g.answers, f.says ∙ ap (λ k. outcomes_text th s (simulated th k (tests_by_data th s cs))) (one_stand_in th ok name n m h i) ∙ sym g.says)

of_outcomes : (s : Settings) (raw : RawOutcomes) (th : model.Theory) (cs : List Class) → Only (OfOutcomes s raw th cs)
of_outcomes s raw th cs a b t u (unread e h f) (unread d i g) = one_outcome_refusal th s (tests_of s th cs) raw e d a b t u h f i g
of_outcomes s raw th cs a b t u (unread e h f) (read os i g) = absurd (not_read th s (tests_of s th cs) raw e a t os h f i)
of_outcomes s raw th cs a b t u (read os h f) (unread e i g) = absurd (not_read th s (tests_of s th cs) raw e b u os i g h)
of_outcomes s raw th cs a b t u (read os h f) (read ps i g) =
    let same = one_recording th (tests_of s th cs) [] raw.items os ps h.records i.records in (
      f.answers ∙ ap (λ rs. ending_on (verdicts_from th 1 cs (choices_by_data th s cs) rs)) same ∙ sym g.answers,
      f.says ∙ ap (judged_report_on th s cs) same ∙ sym g.says,
    )

judged : (s : Settings) (v : RawTheory × RawOutcomes) → Only (Judged s v)
judged s v = of_theory (λ s th. OfOutcomes s v.1 th) (λ s th ok. of_outcomes s v.1 th) s v.0

of_certificate : (th : model.Theory) (rs : List RawLine) → Only (OfCertificate th rs)
of_certificate th rs a b t u (proves s h f) (proves z i g) =
    let same = certificates.one_sequent th rs s z h i in
    (f.answers ∙ sym g.answers, f.says ∙ ap (checked_text th (length rs)) same ∙ sym g.says)
of_certificate th rs a b t u (proves s h f) (fails n i g) = absurd (certificates.never_both th rs s n h i)
of_certificate th rs a b t u (proves s h f) (empty i g) = absurd (certificates.nothing_proved th s (subst (λ ls. Proves th ls s) i h))
of_certificate th rs a b t u (fails m h f) (proves z i g) = absurd (certificates.never_both th rs z m i h)
of_certificate th rs a b t u (fails m h f) (fails n i g) =
    refusals_agree (refusals.Certificate m) (refusals.Certificate n) (ap refusals.Certificate (certificates.one_fault th rs m n h i)) a b t u f g
of_certificate th rs a b t u (fails m h f) (empty i g) = absurd (certificates.nothing_fails th m (subst (λ ls. FailsAt th ls m) i h))
of_certificate th rs a b t u (empty h f) (proves z i g) = absurd (certificates.nothing_proved th z (subst (λ ls. Proves th ls z) h i))
of_certificate th rs a b t u (empty h f) (fails n i g) = absurd (certificates.nothing_fails th n (subst (λ ls. FailsAt th ls n) h i))
of_certificate th rs a b t u (empty h f) (empty i g) = refusals_agree _ _ refl a b t u f g

checked : (v : RawTheory × RawCert) → Only (Checked v)
checked v = of_raw (λ th. OfCertificate th v.1.lines) (λ th ok. of_certificate th v.1.lines) v.0

pub one_output : (r : Request) (input : List ℕ) → Only (IsOutput r input)
one_output (generate s) input = of_input Theory (OfTheory IsReport s) (of_theory IsReport one_report s) input
one_output (harness s) input = of_input Theory (OfTheory IsHarness s) (of_theory IsHarness one_harness s) input
one_output (judge s) input = of_input parts.Judge (Judged s) (judged s) input
one_output (simulate name s) input = of_input Theory (OfTheory (OfStandIn name) s) (of_theory (OfStandIn name) (one_simulation name) s) input
one_output check input = of_input parts.Check Checked checked input

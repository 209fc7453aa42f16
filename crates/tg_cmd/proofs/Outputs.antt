-- What is read, what is made of it and what a run has to write.
use Rattle.std.proofs.Common.{ℕ, ◌<◌, ◌≤◌, inl, inr, List, length, map, Result, Ok, Err, IfOk}
use Rattle.tg_derive.specs.declared.errors.LimitErr.{LimitErr}
use Rattle.tg_derive.specs.declared.errors.LimitErr.TheVariants as passed
use Rattle.tg_derive.specs.Answers.{Stops}
use Rattle.tg_derive.specs.Classes.{Derived}
use Rattle.tg_derive.specs.Work as work
use Rattle.tg_grammar.specs.declared.declarations.RawTheory.{RawTheory}
use Rattle.tg_grammar.specs.Parts.{Part, Value, Theory}
use Rattle.tg_grammar.specs.Parts as parts
use Rattle.tg_hyps.specs.Hypotheses.{Class}
use Rattle.tg_infer.specs.declared.errors.TheoryErr.{TheoryErr}
use Rattle.tg_infer.specs.declared.errors.TheoryErr.TheVariants as theory
use Rattle.tg_infer.specs.Theories as infer
use Rattle.tg_infer.specs.View.{raw_declaration}
use Rattle.tg_lex.specs.declared.token.Token.{Token}
use Rattle.tg_lex.specs.Grammar.{Reads}
use Rattle.tg_model.specs.Theory as model
use Rattle.tg_syntax.specs.declared.parsing.FormErr.{FormErr}
use Rattle.tg_syntax.specs.declared.parsing.FormErr.TheVariants as errors
use Rattle.tg_syntax.specs.Parsing.{Parses}
use Rattle.tg_cmd.specs.declared.answer.Answer.{Answer}
use Rattle.tg_cmd.specs.declared.answer.LimitName.TheVariants.{Input}
use Rattle.tg_cmd.specs.Causes.{longest, IsLimit, OfRaw, refused, too_nested, no_text, a_text, no_token, too_large, lexed, OfInput, too_long, whole}
use Rattle.tg_cmd.specs.Ends.{IsFaultLine, HasTokenLine, IsTheoryLine, IsPassedLine}
use Rattle.tg_cmd.specs.Output.{OfClasses, limited, OfTheory, IsReport, IsHarness, OfStandIn, Judged, Checked, IsOutput}
use Rattle.tg_cmd.specs.Requests.{Request, generate, harness, judge, simulate, check}

-- ---- of a theory

-- a theory that isn't accepted
pub unaccepted : (Of : model.Theory → Answer → List ℕ → Type 0) (raw : RawTheory) (error : TheoryErr) (answer : Answer) (text : List ℕ)
    → infer.IsRefusal (map raw_declaration raw.decls) error → IsTheoryLine error answer text → OfRaw Of raw answer text
unaccepted Of raw (theory.TermSize place) answer text h line = refused place _ h line
unaccepted Of raw (theory.Name place) answer text h line = refused place _ h line
unaccepted Of raw (theory.Typing place) answer text h line = refused place _ h line
unaccepted Of raw (theory.Ambiguous place) answer text h line = refused place _ h line
unaccepted Of raw (theory.Shape place) answer text h line = refused place _ h line
unaccepted Of raw (theory.Program place) answer text h line = refused place _ h line
unaccepted Of raw theory.Memory answer text h line = absurd line

-- a theory that passes a limit on classes
pub passed_by : (Of : List Class → Answer → List ℕ → Type 0) (k : ℕ) (th : model.Theory) (error : LimitErr) (answer : Answer) (text : List ℕ)
    → Stops (Derived th k) error → IsPassedLine error answer text → OfClasses Of k th answer text
passed_by Of k th passed.Patterns answer text h line = limited work.patterns h line
passed_by Of k th passed.Splits answer text h line = limited work.splits h line
passed_by Of k th passed.Steps answer text h line = limited work.steps h line
passed_by Of k th passed.Clauses answer text h line = limited work.clauses h line
passed_by Of k th passed.Memory answer text h line = absurd line

-- ---- of tokens

module _ (n : Part) (Of : Value n → Answer → List ℕ → Type 0) (bytes : List ℕ) (tokens : List Token) (reads : Reads bytes tokens)
    (short : length bytes ≤ longest) where
  -- a text
  pub text_output : (v : Value n) (answer : Answer) (text : List ℕ) → Parses n bytes tokens (Ok v) → Of v answer text → OfInput n Of bytes answer text
  text_output v answer text h g = whole short (lexed tokens reads (a_text v h.0 h.1 g))

  -- no text
  pub fault_output : (error : FormErr) (answer : Answer) (text : List ℕ) → Parses n bytes tokens (Err error) → IsFaultLine error answer text
      → OfInput n Of bytes answer text
  fault_output errors.Nested answer text h line = whole short (lexed tokens reads (too_nested h line))
  fault_output (errors.Form place) answer text h line = whole short (lexed tokens reads (no_text place h.0 h.1 line))
  fault_output errors.Memory answer text h line = absurd line

-- of bytes that have no tokens
token_of : (n : Part) (Of : Value n → Answer → List ℕ → Type 0) (bytes : List ℕ) (answer : Answer) (text : List ℕ) → length bytes ≤ longest
    → HasTokenLine bytes answer text → OfInput n Of bytes answer text
token_of n Of bytes answer text short (inl (place, fault, line)) = whole short (no_token place fault line)
token_of n Of bytes answer text short (inr (large, line)) = whole short (too_large large line)

-- what holds of each part of the grammar and of each that comes of it holds of an output
by_request : (r : Request) (bytes : List ℕ) (answer : Answer) (text : List ℕ)
    → ((n : Part) (Of : Value n → Answer → List ℕ → Type 0) → OfInput n Of bytes answer text) → IsOutput r bytes answer text
by_request (generate s) bytes answer text h = h Theory (OfTheory IsReport s)
by_request (harness s) bytes answer text h = h Theory (OfTheory IsHarness s)
by_request (judge s) bytes answer text h = h parts.Judge (Judged s)
by_request (simulate name s) bytes answer text h = h Theory (OfTheory (OfStandIn name) s)
by_request check bytes answer text h = h parts.Check Checked

pub token_output : (bytes : List ℕ) (r : Request) (answer : Answer) (text : List ℕ) → length bytes ≤ longest → HasTokenLine bytes answer text
    → IsOutput r bytes answer text
token_output bytes r answer text short line = by_request r bytes answer text (λ n Of. token_of n Of bytes answer text short line)

-- of too many bytes
pub long_output : (bytes : List ℕ) (r : Request) (answer : Answer) (text : List ℕ) → longest < length bytes → IsLimit Input answer text
    → IsOutput r bytes answer text
long_output bytes r answer text long line = by_request r bytes answer text (λ n Of. too_long long line)

-- ---- in the calls

pub mapped_ok : {A E : Type 0} (P Q : A → Type 0) (r : Result A E) → ((a : A) → P a → Q a) → IfOk r P → IfOk r Q
mapped_ok P Q (Ok a) f h = f a h
mapped_ok P Q (Err e) f h = tt

pub both_ok : {A E : Type 0} (P Q : A → Type 0) (r : Result A E) → IfOk r P → IfOk r Q → IfOk r (λ a. P a × Q a)
both_ok P Q (Ok a) p q = (p, q)
both_ok P Q (Err e) p q = tt

-- What comes of an input, in the order of work: of too many bytes, of bytes that have no tokens, of tokens that are no text, and of a
-- text. Each says the answer and the text that is written.
use Rattle.std.specs.Prelude.{ℕ, ◌≡◌, ◌<◌, ◌≤◌, true, false, List, length, map}
use Rattle.tg_accept.specs.Checks.{Kind}
use Rattle.tg_accept.specs.Declared.{nothing}
use Rattle.tg_accept.specs.Theories.{IsTheoryOf}
use Rattle.tg_grammar.specs.declared.declarations.RawTheory.{RawTheory}
use Rattle.tg_grammar.specs.Parts.{Part, Value}
use Rattle.tg_grammar.specs.Reading.{IsText}
use Rattle.tg_grammar.specs.Seen.{seen}
use Rattle.tg_infer.specs.View.{raw_declaration}
use Rattle.tg_lex.specs.declared.token.Token.{Token}
use Rattle.tg_lex.specs.Grammar.{Reads}
use Rattle.tg_lex.specs.Load.{load_limit, load_passes}
use Rattle.tg_model.specs.Theory.{Theory}
use Rattle.tg_syntax.specs.Parsing.{IsFormFault}
use Rattle.tg_cmd.specs.declared.answer.Answer.{Answer}
use Rattle.tg_cmd.specs.declared.answer.Answer.TheVariants.{Refused, Limit}
use Rattle.tg_cmd.specs.declared.answer.Refusal.{Refusal}
use Rattle.tg_cmd.specs.declared.answer.Refusal.TheVariants as refusals
use Rattle.tg_cmd.specs.declared.answer.LimitName.{LimitName}
use Rattle.tg_cmd.specs.declared.answer.LimitName.TheVariants.{Input, Number, Nesting}
use Rattle.tg_cmd.specs.Answers.{refusal_line, limit_line, answer_for, line_for}
use Rattle.tg_cmd.specs.Reading.{IsRefusedTheory, HasTokenFault, IsTooLarge}

-- how many bytes are read at the most
abbrev pub longest : ℕ
longest = 16777216

-- the input is refused, and one line says so
pub record IsRefusal (r : Refusal) (answer : Answer) (text : List ℕ) : Type 0 where
  pub answers : answer ≡ Refused r
  pub says : text ≡ refusal_line r

-- the input passes a limit, and one line says so
pub record IsLimit (l : LimitName) (answer : Answer) (text : List ℕ) : Type 0 where
  pub answers : answer ≡ Limit l
  pub says : text ≡ limit_line l

-- a theory as it is read isn't accepted, for a fault of this kind at a declaration
pub record IsFaultOf (place : ℕ) (k : Kind) (answer : Answer) (text : List ℕ) : Type 0 where
  pub answers : answer ≡ answer_for k place
  pub says : text ≡ line_for k place

-- Of a theory as it is read; `Of` is what comes of an accepted one.
pub data OfRaw (Of : Theory → Answer → List ℕ → Type 0) (raw : RawTheory) (answer : Answer) (text : List ℕ) : Type 0 where
  refused : (place : ℕ) (k : Kind) → IsRefusedTheory raw place k → IsFaultOf place k answer text → OfRaw Of raw answer text
  accepted : (th : Theory) → IsTheoryOf raw.name nothing (map raw_declaration raw.decls) th → Of th answer text → OfRaw Of raw answer text

-- `Of` is what comes of a text of the part.
module _ (n : Part) (Of : Value n → Answer → List ℕ → Type 0) where
  -- of tokens
  pub data OfTokens (bytes : List ℕ) (tokens : List Token) (answer : Answer) (text : List ℕ) : Type 0 where
    too_nested : load_passes load_limit bytes tokens ≡ true → IsLimit Nesting answer text → OfTokens bytes tokens answer text
    no_text : (place : ℕ) → load_passes load_limit bytes tokens ≡ false → IsFormFault n (seen bytes tokens) place
        → IsRefusal (refusals.Form place) answer text → OfTokens bytes tokens answer text
    a_text : (v : Value n) → load_passes load_limit bytes tokens ≡ false → IsText n v (seen bytes tokens) → Of v answer text
        → OfTokens bytes tokens answer text

  -- of bytes
  pub data OfBytes (bytes : List ℕ) (answer : Answer) (text : List ℕ) : Type 0 where
    no_token : (place : ℕ) → HasTokenFault bytes place → IsRefusal (refusals.Form place) answer text → OfBytes bytes answer text
    too_large : IsTooLarge bytes → IsLimit Number answer text → OfBytes bytes answer text
    lexed : (tokens : List Token) → Reads bytes tokens → OfTokens bytes tokens answer text → OfBytes bytes answer text

  -- of all that the source has
  pub data OfInput (bytes : List ℕ) (answer : Answer) (text : List ℕ) : Type 0 where
    too_long : longest < length bytes → IsLimit Input answer text → OfInput bytes answer text
    whole : length bytes ≤ longest → OfBytes bytes answer text → OfInput bytes answer text

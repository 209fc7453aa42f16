-- What a call answers that reads a whole text.
use Rattle.std.specs.Prelude.{ℕ, zero, suc, ◌-◌, ◌≡◌, true, false, List, length, take, Result, Ok, Err}
use Rattle.tg_lex.specs.declared.token.Token.{Token}
use Rattle.tg_lex.specs.Load.{load_limit, load_passes}
use Rattle.tg_rules.specs.Fault.{IsFault}
use Rattle.tg_grammar.specs.Seen.{Seen, seen, declarations}
use Rattle.tg_grammar.specs.Parts.{Part, Value}
use Rattle.tg_grammar.specs.Reading.{IsText}
use Rattle.tg_reading.specs.declared.reader.Stop.{Stop}
use Rattle.tg_reading.specs.declared.reader.Stop.TheVariants.{Wrong}
use Rattle.tg_reading.specs.declared.reader.Stop.TheVariants as stops
use Rattle.tg_syntax.specs.declared.parsing.FormErr.{FormErr}
use Rattle.tg_syntax.specs.declared.parsing.FormErr.TheVariants.{Nested, Form, Memory}

-- The tokens are no text of the part, and so many of the words that begin declarations, outcomes and certificates stand before
-- the fault: the longest front of the tokens with which some text of the part begins.
abbrev pub IsFormFault : Part → List Seen → ℕ → Type 0
IsFormFault n ts place = (front : List Seen) × (left : List Seen) × IsFault (IsText n) ts front left × (place ≡ declarations front)

-- The answer tells whether the tokens of the bytes pass the load, and if they don't, the text that they are, or their fault.
abbrev pub Parses : (n : Part) → List ℕ → List Token → Result (Value n) FormErr → Type 0
Parses n bytes tokens (Ok value) = (load_passes load_limit bytes tokens ≡ false) × IsText n value (seen bytes tokens)
Parses n bytes tokens (Err Nested) = load_passes load_limit bytes tokens ≡ true
Parses n bytes tokens (Err (Form place)) = (load_passes load_limit bytes tokens ≡ false) × IsFormFault n (seen bytes tokens) place
Parses n bytes tokens (Err Memory) = Unit {0}

-- a text is answered with its value, unless memory runs out
abbrev pub Tells : {A : Type 0} → A → Result A FormErr → Type 0
Tells value (Ok read) = read ≡ value
Tells value (Err Memory) = Unit {0}
Tells value (Err Nested) = ⊥
Tells value (Err (Form place)) = ⊥

-- Only such a text is missed whose load of nesting is too great.
abbrev pub TellsTexts : (n : Part) → List ℕ → List Token → Result (Value n) FormErr → Type 0
TellsTexts n bytes tokens answer =
    (value : Value n) → load_passes load_limit bytes tokens ≡ false → IsText n value (seen bytes tokens) → Tells value answer

-- ---- how a call comes to its answer

-- the fault before the last `left` of the tokens
abbrev pub fault_before : List ℕ → List Token → ℕ → FormErr
fault_before bytes tokens left = Form (declarations (take (length tokens - left) (seen bytes tokens)))

-- where a reader of the part has read this, and so many tokens are left
abbrev pub finished : {A : Type 0} → List ℕ → List Token → Result A Stop → ℕ → Result A FormErr
finished bytes tokens (Ok value) zero = Ok value
finished bytes tokens (Ok value) (suc left) = Err (fault_before bytes tokens (suc left))
finished bytes tokens (Err Wrong) left = Err (fault_before bytes tokens left)
finished bytes tokens (Err stops.Memory) left = Err Memory

-- What the call for the tokens of a text answers.
use Rattle.std.specs.Prelude.{◌≡◌, ℕ, List, Result, Ok, Err}
use Rattle.std.specs.declared.alloc.Global.{Global}
use Rattle.std.specs.declared.vec.Vec.{Vec}
use Rattle.tg_lex.specs.declared.token.Token.{Token}
use Rattle.tg_lex.specs.declared.token.LexErr.{LexErr}
use Rattle.tg_lex.specs.declared.token.LexErr.TheVariants as errors
use Rattle.tg_lex.specs.declared.part.Fault.{Fault}
use Rattle.tg_lex.specs.declared.part.Fault.TheVariants as faults
use Rattle.tg_lex.specs.Grammar.{Reads, FailsAt}

-- the first fault from the left; of memory nothing is said
abbrev pub IsFirstFault : List ℕ → LexErr → Type 0
IsFirstFault bytes (errors.Byte at before) = FailsAt bytes faults.Byte at before
IsFirstFault bytes (errors.Comment at before) = FailsAt bytes faults.Comment at before
IsFirstFault bytes (errors.Number at before) = FailsAt bytes faults.Number at before
IsFirstFault bytes errors.Memory = Unit {0}

-- these tokens, unless memory ran out
abbrev pub TellsTokens : List Token → Result (Vec Token Global) LexErr → Type 0
TellsTokens tokens (Ok v) = v.items ≡ tokens
TellsTokens tokens (Err (errors.Byte at before)) = ⊥
TellsTokens tokens (Err (errors.Comment at before)) = ⊥
TellsTokens tokens (Err (errors.Number at before)) = ⊥
TellsTokens tokens (Err errors.Memory) = Unit {0}

-- this fault with its place and the tokens before it, unless memory ran out
abbrev pub TellsFault : Fault → ℕ → List Token → Result (Vec Token Global) LexErr → Type 0
TellsFault fault at before (Ok v) = ⊥
TellsFault fault at before (Err (errors.Byte a b)) = (fault ≡ faults.Byte) × (a ≡ at) × (b ≡ before)
TellsFault fault at before (Err (errors.Comment a b)) = (fault ≡ faults.Comment) × (a ≡ at) × (b ≡ before)
TellsFault fault at before (Err (errors.Number a b)) = (fault ≡ faults.Number) × (a ≡ at) × (b ≡ before)
TellsFault fault at before (Err errors.Memory) = Unit {0}

-- each reading of the bytes is told, so there is one at most
abbrev pub TellsReading : List ℕ → Result (Vec Token Global) LexErr → Type 0
TellsReading bytes result = (tokens : List Token) → Reads bytes tokens → TellsTokens tokens result

-- each first fault of the bytes is told
abbrev pub TellsFirstFault : List ℕ → Result (Vec Token Global) LexErr → Type 0
TellsFirstFault bytes result = (f : Fault) (at : ℕ) (before : List Token) → FailsAt bytes f at before → TellsFault f at before result

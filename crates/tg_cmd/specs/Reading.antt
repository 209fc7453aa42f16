-- What the bytes of an input are: a text of the grammar, or why they are none.
use Rattle.std.specs.Prelude.{ℕ, ◌≡◌, ◌⊎◌, false, List, map}
use Rattle.tg_lex.specs.declared.token.Token.{Token}
use Rattle.tg_lex.specs.Grammar.{Reads, HasWrongByte, HasOpenComment, HasLargeNumber}
use Rattle.tg_lex.specs.Load.{load_limit, load_passes}
use Rattle.tg_grammar.specs.Seen.{seen, declarations}
use Rattle.tg_grammar.specs.Parts.{Part, Value}
use Rattle.tg_grammar.specs.Reading.{IsText}
use Rattle.tg_accept.specs.Checks.{Kind}
use Rattle.tg_accept.specs.Declared.{nothing}
use Rattle.tg_accept.specs.Theories.{IsRefused}
use Rattle.tg_grammar.specs.declared.declarations.RawTheory.{RawTheory}
use Rattle.tg_infer.specs.View.{raw_declaration}

-- the bytes have tokens whose load of nesting is allowed, and they are a text of the part
pub record IsTextOf (n : Part) (bytes : List ℕ) (value : Value n) : Type 0 where
  pub tokens : List Token
  pub lexed : Reads bytes tokens
  pub shallow : load_passes load_limit bytes tokens ≡ false
  pub text : IsText n value (seen bytes tokens)

-- the first fault is a byte that begins no token, or a comment that isn't closed
abbrev pub HasTokenFault : List ℕ → ℕ → Type 0
HasTokenFault bytes place =
    (at : ℕ) × (before : List Token) × (HasWrongByte bytes at before ⊎ HasOpenComment bytes at before) × (place ≡ declarations (seen bytes before))

-- the first fault is a number of 2^64 or more
abbrev pub IsTooLarge : List ℕ → Type 0
IsTooLarge bytes = (at : ℕ) × (before : List Token) × HasLargeNumber bytes at before

-- ---- the theory

-- the first fault is of this kind, at declaration `place`
abbrev pub IsRefusedTheory : RawTheory → ℕ → Kind → Type 0
IsRefusedTheory t place k = IsRefused nothing 1 (map raw_declaration t.decls) place k

-- The grammar of tokens, over the bytes of a text.
use Rattle.std.specs.Prelude.{◌≡◌, ℕ, zero, suc, ◌+◌, ◌-◌, ◌*◌, ◌^◌, ◌<◌, ◌≤◌, Bool, true, false, ◌&&◌, ◌⊎◌, ◌==◌, if◌then◌else◌, List, [], ◌∷◌, length, take, drop, slice_range, Option, Some, None, Result, Ok, Err, IsTrue}
use Rattle.std.specs.List.{list_all}
use Rattle.std.specs.Str.{bytes_eq}
use Rattle.tg_tables.specs.Rows.{Entry}
use Rattle.tg_tables.specs.Lists.{symbol_list}
use Rattle.tg_lex.specs.declared.token.Kind.{Kind}
use Rattle.tg_lex.specs.declared.token.Kind.TheVariants.{Word, TyVar, Number, Sym}
use Rattle.tg_lex.specs.declared.token.Token.{Token}
use Rattle.tg_lex.specs.declared.part.Part.{Part}
use Rattle.tg_lex.specs.declared.part.Part.TheVariants as parts
use Rattle.tg_lex.specs.declared.part.Fault.{Fault}
use Rattle.tg_lex.specs.declared.part.Fault.TheVariants as faults
use Rattle.tg_lex.specs.Bytes.{is_blank, is_letter, is_digit, is_name_byte}

-- ---- the texts of each kind of token

abbrev pub is_word : List ℕ → Bool
is_word [] = false
is_word (b ∷ bs) = is_letter b && list_all is_name_byte bs

-- `'` and a word
abbrev pub is_type_variable : List ℕ → Bool
is_type_variable [] = false
is_type_variable (b ∷ bs) = b == 39 && is_word bs

abbrev pub is_number : List ℕ → Bool
is_number [] = false
is_number (b ∷ bs) = is_digit b && list_all is_digit bs

-- the code of the first entry of this name
abbrev pub code_in : List Entry → List ℕ → Option ℕ
code_in [] text = None
code_in (e ∷ es) text = if bytes_eq e.name text then Some e.code else code_in es text

abbrev pub Spells : Kind → List ℕ → Type 0
Spells Word text = IsTrue (is_word text)
Spells TyVar text = IsTrue (is_type_variable text)
Spells Number text = IsTrue (is_number text)
Spells (Sym code) text = code_in symbol_list text ≡ Some code

-- the value of digits that follow a number
abbrev pub value_from : ℕ → List ℕ → ℕ
value_from n [] = n
value_from n (d ∷ ds) = value_from (10 * n + (d - 48)) ds

-- the value of digits
abbrev pub value : List ℕ → ℕ
value digits = value_from 0 digits

-- ---- comments

-- `(*` stands here
abbrev pub opens : List ℕ → Bool
opens [] = false
opens (b ∷ []) = false
opens (b ∷ c ∷ bs) = b == 40 && c == 42

-- `*)` stands here
abbrev pub closes : List ℕ → Bool
closes [] = false
closes (b ∷ []) = false
closes (b ∷ c ∷ bs) = b == 42 && c == 41

-- The bytes after a comment, where `depth` comments are open and `second` says that the next byte is
-- the second one of a `(*` or `*)`. None where it isn't closed.
abbrev pub after_open : Bool → ℕ → List ℕ → Option (List ℕ)
after_open second depth [] = None
after_open true zero (b ∷ bs) = Some bs
after_open true (suc depth) (b ∷ bs) = after_open false (suc depth) bs
after_open false depth (b ∷ bs) = elim (opens (b ∷ bs)) [
  | true ↦ after_open true (suc depth) bs
  | false ↦ elim (closes (b ∷ bs)) [
    | true ↦ after_open true (depth - 1) bs
    | false ↦ after_open false depth bs
  ]
]

-- the bytes after the comment that begins here
abbrev pub after_comment : List ℕ → Option (List ℕ)
after_comment bytes = if opens bytes then after_open false 0 bytes else None

-- ---- what stands first

-- the first `size` bytes are a text of this kind, and no longer front is a text of any kind
pub record IsLongest (bytes : List ℕ) (kind : Kind) (size : ℕ) : Type 0 where
  pub within : size ≤ length bytes
  pub spelled : Spells kind (take size bytes)
  pub longest : (other : Kind) (n : ℕ) → n ≤ length bytes → Spells other (take n bytes) → n ≤ size

abbrev pub begins_blank : List ℕ → Bool
begins_blank [] = false
begins_blank (b ∷ bs) = is_blank b

-- a separator is one blank byte or a comment
abbrev pub IsSeparator : List ℕ → ℕ → Type 0
IsSeparator bytes size = (IsTrue (begins_blank bytes) × (size ≡ 1)) ⊎ ((size ≤ length bytes) × (after_comment bytes ≡ Some (drop size bytes)))

-- where `(*` stands, a comment begins, and no token
pub record IsToken (bytes : List ℕ) (kind : Kind) (size : ℕ) : Type 0 where
  pub no_comment : opens bytes ≡ false
  pub is_longest : IsLongest bytes kind size
  pub fits : kind ≡ Number → value (take size bytes) < 2 ^ 64

abbrev pub Stands : List ℕ → Part → Type 0
Stands bytes (parts.Skip size) = IsSeparator bytes size
Stands bytes (parts.Token kind size) = IsToken bytes kind size

-- no separator, comment or token begins here
pub record IsNoStart (bytes : List ℕ) : Type 0 where
  pub some : 0 < length bytes
  pub no_blank : begins_blank bytes ≡ false
  pub no_comment : opens bytes ≡ false
  pub no_token : (kind : Kind) (n : ℕ) → n ≤ length bytes → ¬ Spells kind (take n bytes)

-- a comment that isn't closed
pub record IsUnclosed (bytes : List ℕ) : Type 0 where
  pub opened : opens bytes ≡ true
  pub never : after_comment bytes ≡ None

-- a number of 2^64 or more
abbrev pub IsTooLarge : List ℕ → Type 0
IsTooLarge bytes = (size : ℕ) × IsLongest bytes Number size × (2 ^ 64 ≤ value (take size bytes))

abbrev pub Fails : List ℕ → Fault → Type 0
Fails bytes faults.Byte = IsNoStart bytes
Fails bytes faults.Comment = IsUnclosed bytes
Fails bytes faults.Number = IsTooLarge bytes

abbrev pub size_of : Part → ℕ
size_of (parts.Skip size) = size
size_of (parts.Token kind size) = size

-- what is found at the front of some bytes
abbrev pub IsFirst : List ℕ → Result Part Fault → Type 0
IsFirst bytes (Ok p) = Stands bytes p × (0 < size_of p) × (size_of p ≤ length bytes)
IsFirst bytes (Err fault) = Fails bytes fault

-- ---- the tokens of a text

abbrev pub total : List Part → ℕ
total [] = 0
total (p ∷ ps) = size_of p + total ps

-- the text begins with these parts, each the first one of what is left
abbrev pub BeginsWith : List ℕ → List Part → Type 0
BeginsWith bytes [] = Unit {0}
BeginsWith bytes (p ∷ ps) = Stands bytes p × BeginsWith (drop (size_of p) bytes) ps

abbrev pub token : Kind → ℕ → ℕ → Token
token kind start end = record { kind = kind; start = start; end = end }

-- the tokens among parts of which the first stands at `at`
abbrev pub tokens_from : ℕ → List Part → List Token
tokens_from at [] = []
tokens_from at (parts.Skip size ∷ ps) = tokens_from (at + size) ps
tokens_from at (parts.Token kind size ∷ ps) = token kind at (at + size) ∷ tokens_from (at + size) ps

-- the tokens before the place `at`
abbrev pub ReadsTo : List ℕ → List Token → ℕ → Type 0
ReadsTo bytes tokens at = (ps : List Part) × BeginsWith bytes ps × (at ≡ total ps) × (tokens ≡ tokens_from 0 ps)

-- the tokens of the whole text
abbrev pub Reads : List ℕ → List Token → Type 0
Reads bytes tokens = ReadsTo bytes tokens (length bytes)

-- the first fault from the left, its place and the tokens before it
abbrev pub FailsAt : List ℕ → Fault → ℕ → List Token → Type 0
FailsAt bytes fault at before = ReadsTo bytes before at × Fails (drop at bytes) fault

-- the same by what the fault is: a byte that begins no token, a comment that isn't closed, a number that is too large
abbrev pub HasWrongByte : List ℕ → ℕ → List Token → Type 0
HasWrongByte bytes at before = FailsAt bytes faults.Byte at before

abbrev pub HasOpenComment : List ℕ → ℕ → List Token → Type 0
HasOpenComment bytes at before = FailsAt bytes faults.Comment at before

abbrev pub HasLargeNumber : List ℕ → ℕ → List Token → Type 0
HasLargeNumber bytes at before = FailsAt bytes faults.Number at before

-- ---- what holds of each token

pub record IsTokenOf (bytes : List ℕ) (t : Token) : Type 0 where
  pub some : t.start < t.end
  pub within : t.end ≤ length bytes
  pub spelled : Spells t.kind (slice_range bytes t.start t.end)
  pub fits : t.kind ≡ Number → value (slice_range bytes t.start t.end) < 2 ^ 64

-- each token begins at `at` or behind it, and the next one where it ends or behind that
abbrev pub Rises : ℕ → List Token → Type 0
Rises at [] = Unit {0}
Rises at (t ∷ ts) = (at ≤ t.start) × (t.start < t.end) × Rises t.end ts

-- How the part that stands first is found, by its first bytes.
use Rattle.std.specs.Prelude.{ℕ, ◌+◌, ◌-◌, ◌^◌, Bool, false, ◌&&◌, ◌==◌, nat_lt, if◌then◌else◌, List, [], ◌∷◌, length, take, Option, Some, None, Result, Ok, Err}
use Rattle.std.specs.List.{prefix_len}
use Rattle.tg_lex.specs.declared.token.Kind.TheVariants.{Word, TyVar, Number, Sym}
use Rattle.tg_lex.specs.declared.part.Part.{Part}
use Rattle.tg_lex.specs.declared.part.Part.TheVariants.{Skip, Token}
use Rattle.tg_lex.specs.declared.part.Fault.{Fault}
use Rattle.tg_lex.specs.declared.part.Fault.TheVariants as faults
use Rattle.tg_tables.specs.SymbolCodes as symbols
use Rattle.tg_lex.specs.Bytes.{is_blank, is_letter, is_digit, is_name_byte}
use Rattle.tg_lex.specs.Grammar.{value, opens, after_comment}

abbrev pub next_is : ℕ → List ℕ → Bool
next_is c [] = false
next_is c (b ∷ bs) = c == b

-- `->` stands here
abbrev pub is_arrow : List ℕ → Bool
is_arrow [] = false
is_arrow (b ∷ bs) = 45 == b && next_is 62 bs

-- the code of a symbol of one byte
abbrev pub one_byte : ℕ → Option ℕ
one_byte b =
    if 33 == b then Some symbols.bang else if 38 == b then Some symbols.and else if 40 == b then Some symbols.open_paren else if 41 == b then Some 2
    else if 42 == b then Some symbols.times else if 43 == b then Some symbols.plus else if 44 == b then Some symbols.comma else if 45 == b then Some 14
    else if 46 == b then Some symbols.dot else if 59 == b then Some symbols.semicolon else if 60 == b then Some symbols.less else if 61 == b then Some 10
    else if 63 == b then Some symbols.question else if 91 == b then Some symbols.open_bracket else if 93 == b then Some symbols.close_bracket else if 123 == b then Some 3
    else if 124 == b then Some symbols.or else if 125 == b then Some symbols.close_brace else if 126 == b then Some symbols.not else None

abbrev pub sized_one : Option ℕ → Option (ℕ × ℕ)
sized_one None = None
sized_one (Some code) = Some (code, 1)

-- the longest symbol that begins with `b` and goes on in the bytes after it: its code and size
unfoldable pub symbol_of : ℕ → List ℕ → Option (ℕ × ℕ)
symbol_of b bs =
    if 45 == b && is_arrow bs then Some (symbols.arrow, 3)
    else if 60 == b && next_is 61 bs then Some (symbols.less_equal, 2)
    else if 61 == b && next_is 62 bs then Some (symbols.double_arrow, 2)
    else if 58 == b && next_is 58 bs then Some (symbols.double_colon, 2)
    else sized_one (one_byte b)

abbrev pub symbol_part : Option (ℕ × ℕ) → Result Part Fault
symbol_part None = Err faults.Byte
symbol_part (Some s) = Ok (Token (Sym s.0) s.1)

-- a type variable, whose `'` stands before these bytes
unfoldable pub variable_part : List ℕ → Result Part Fault
variable_part [] = Err faults.Byte
variable_part (b ∷ bs) = if is_letter b then Ok (Token TyVar (prefix_len is_name_byte bs + 2)) else Err faults.Byte

unfoldable pub number_part : List ℕ → Result Part Fault
number_part bytes =
    if nat_lt (value (take (prefix_len is_digit bytes) bytes)) (2 ^ 64) then Ok (Token Number (prefix_len is_digit bytes)) else Err faults.Number

abbrev pub part_before : List ℕ → Option (List ℕ) → Result Part Fault
part_before bytes None = Err faults.Comment
part_before bytes (Some rest) = Ok (Skip (length bytes - length rest))

unfoldable pub part_of : List ℕ → Result Part Fault
part_of [] = Err faults.Byte
part_of (b ∷ bs) =
    if is_blank b then Ok (Skip 1)
    else if is_letter b then Ok (Token Word (prefix_len is_name_byte bs + 1))
    else if is_digit b then number_part (b ∷ bs)
    else if b == 39 then variable_part bs
    else if opens (b ∷ bs) then part_before (b ∷ bs) (after_comment (b ∷ bs))
    else symbol_part (symbol_of b bs)

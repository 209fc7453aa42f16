-- The load of nesting: a fold over the tokens, with a list of counters that begins as one 0.
use Rattle.std.specs.Prelude.{ℕ, ◌+◌, ◌-◌, Bool, false, ◌||◌, ◌&&◌, ◌==◌, nat_lt, nat_le, if◌then◌else◌, List, [], ◌∷◌, ◌++◌, length, take, map, sum, slice_index, slice_range, codes}
use Rattle.std.specs.Str.{bytes_eq}
use Rattle.tg_tables.specs.SymbolCodes as symbols
use Rattle.tg_lex.specs.declared.token.Token.{Token}
use Rattle.tg_lex.specs.declared.load.TheConstants.{LOAD_LIMIT}
use Rattle.tg_lex.specs.declared.load.Effect.{Effect}
use Rattle.tg_lex.specs.declared.load.Effect.TheVariants.{Opens, Closes, Resets, Counts, Nothing}

abbrev pub is_any_of : List (List ℕ) → List ℕ → Bool
is_any_of [] text = false
is_any_of (w ∷ ws) text = bytes_eq text w || is_any_of ws text

abbrev pub is_opening : List ℕ → Bool
is_opening = is_any_of (codes "(" ∷ codes "{" ∷ codes "[" ∷ [])

abbrev pub is_closing : List ℕ → Bool
is_closing = is_any_of (codes ")" ∷ codes "}" ∷ codes "]" ∷ [])

abbrev pub is_dividing : List ℕ → Bool
is_dividing = is_any_of (codes "," ∷ codes ";" ∷ [])

abbrev pub is_counted_symbol : List ℕ → Bool
is_counted_symbol = is_any_of (codes "~" ∷ codes "-->" ∷ codes "|" ∷ codes "&" ∷ codes "=" ∷ codes "<" ∷ codes "<=" ∷ codes "+" ∷ codes "-" ∷ codes "*" ∷ [])

abbrev pub is_counted_word : List ℕ → Bool
is_counted_word = is_any_of (codes "div" ∷ codes "mod" ∷ codes "if" ∷ codes "let" ∷ codes "case" ∷ [])

-- what a token of this text does to the counters
unfoldable pub effect : List ℕ → Effect
effect text =
    if is_opening text then Opens
    else if is_closing text then Closes
    else if is_dividing text then Resets
    else if is_counted_symbol text || is_counted_word text then Counts
    else Nothing

-- the same list with another last counter
abbrev pub with_last : ℕ → List ℕ → List ℕ
with_last n counters = take (length counters - 1) counters ++ n ∷ []

-- one counter more, the last one taken away unless it is the only one, the last one set to 0, 1 added to it
abbrev pub step : Effect → List ℕ → List ℕ
step Opens counters = counters ++ 0 ∷ []
step Closes counters = if nat_lt 1 (length counters) then take (length counters - 1) counters else counters
step Resets counters = with_last 0 counters
step Counts counters = with_last (slice_index counters (length counters - 1) + 1) counters
step Nothing counters = counters

abbrev pub load_of : List ℕ → ℕ
load_of counters = sum counters + length counters - 1

-- whether the load is above `limit` at one of the tokens of these texts
abbrev pub passes : ℕ → List ℕ → List (List ℕ) → Bool
passes limit counters [] = false
passes limit counters (text ∷ texts) = nat_lt limit (load_of (step (effect text) counters)) || passes limit (step (effect text) counters) texts

-- the load that a text may have
abbrev pub load_limit : ℕ
load_limit = LOAD_LIMIT

abbrev pub text_of : List ℕ → Token → List ℕ
text_of bytes t = slice_range bytes t.start t.end

-- whether the load of the tokens of the bytes passes the limit
abbrev pub load_passes : ℕ → List ℕ → List Token → Bool
load_passes limit bytes tokens = passes limit (0 ∷ []) (map (text_of bytes) tokens)

-- ---- the same by the code of a symbol, and of a word

abbrev pub symbol_effect : ℕ → Effect
symbol_effect code =
    if symbols.open_paren == code then Opens else if symbols.close_paren == code then Closes
    else if symbols.open_brace == code then Opens else if symbols.close_brace == code then Closes
    else if symbols.open_bracket == code then Opens else if symbols.close_bracket == code then Closes
    else if symbols.comma == code then Resets else if symbols.semicolon == code then Resets
    else if nat_le symbols.equal code && nat_le code symbols.arrow then Counts else Nothing

abbrev pub word_effect : List ℕ → Effect
word_effect text = if is_counted_word text then Counts else Nothing

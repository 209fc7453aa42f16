-- How tokens are written one behind another.
use Rattle.std.specs.Prelude.{ℕ, Bool, false, not, ◌&&◌, ◌||◌, ◌==◌, if◌then◌else◌, List, [], ◌∷◌, ◌++◌, codes}
use Rattle.tg_rules.specs.Rule.{has}
use Rattle.tg_grammar.specs.Seen.{Seen}

-- the last of the bytes, or `before` where there are none
abbrev pub last_or : ℕ → List ℕ → ℕ
last_or before [] = before
last_or before (b ∷ bs) = last_or b bs

-- no space stands behind these, among them LF
abbrev pub opening : List ℕ
opening = 10 ∷ codes "([{!?"

-- nor before these
abbrev pub closing : List ℕ
closing = codes ")]},;."

-- A space stands between two tokens but for these, and between `(` and `*`, since `(*` begins a comment.
abbrev pub is_apart : ℕ → List ℕ → Bool
is_apart before [] = false
is_apart before (next ∷ text) = before == 40 && next == 42 || not (has opening before || has closing next)

-- what stands between a byte and a token's text
abbrev pub gap : ℕ → List ℕ → List ℕ
gap before text = if is_apart before text then codes " " else []

-- a token's text behind what is written
unfoldable pub put : List ℕ → List ℕ → List ℕ
put out text = out ++ (gap (last_or 10 out) text ++ text)

-- tokens behind what is written
abbrev pub written : List ℕ → List Seen → List ℕ
written out [] = out
written out (t ∷ ts) = written (put out t.text) ts

-- a line of tokens, ended by LF, behind what is written
abbrev pub written_line : List ℕ → List Seen → List ℕ
written_line out ts = written out ts ++ 10 ∷ []

abbrev pub written_lines : List ℕ → List (List Seen) → List ℕ
written_lines out [] = out
written_lines out (ts ∷ lines) = written_lines (written_line out ts) lines

-- the text of tokens
abbrev pub render : List Seen → List ℕ
render ts = written [] ts

-- the text of lines
abbrev pub lines : List (List Seen) → List ℕ
lines tss = written_lines [] tss

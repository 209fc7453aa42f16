-- Each part of patterns is read as its rule says.
use Rattle.std.proofs.Common.{◌≡◌, ℕ, true, false, List, [], ◌∷◌, ◌++◌}
use Rattle.tg_rules.specs.Reader.{ok, err, starts}
use Rattle.tg_rules.specs.Repetition.{with_front}
use Rattle.tg_rules.proofs.Repetition.{front_end, front_next, front_fault, without_front, some_fault, some_end, some_next, many_none, many_some}
use Rattle.tg_grammar.specs.Seen.{Seen}
use Rattle.tg_grammar.specs.Reading.{kind, reads, step}
use Rattle.tg_grammar.proofs.Readings.{reads_by_rule}
use Rattle.tg_grammar.specs.declared.declarations.RawPat.{RawPat}
use Rattle.tg_grammar.specs.First.{words, pattern_kinds}
use Rattle.tg_grammar.specs.Parts.{Pattern, Patterns, Words}
use Rattle.tg_grammar.specs.Page.{names}
use Rattle.tg_reading.specs.Answers.{text_at, by_rule}

pub pattern_is : (ts : List Seen) → reads Pattern ts ≡ step Pattern ts
pattern_is = reads_by_rule Pattern

-- ---- repetitions

pub patterns_end : (front : List RawPat) (ts : List Seen) → starts kind pattern_kinds ts ≡ false → with_front front (reads Patterns ts) ≡ ok front ts
patterns_end = front_end (starts kind pattern_kinds) (reads Pattern) (reads Patterns) (reads_by_rule Patterns)

pub patterns_next : (front : List RawPat) (ts rest : List Seen) (x : RawPat) → starts kind pattern_kinds ts ≡ true → reads Pattern ts ≡ ok x rest
    → with_front front (reads Patterns ts) ≡ with_front (front ++ x ∷ []) (reads Patterns rest)
patterns_next = front_next (starts kind pattern_kinds) (reads Pattern) (reads Patterns) (reads_by_rule Patterns)

pub patterns_fault : (front : List RawPat) (ts left : List Seen) → starts kind pattern_kinds ts ≡ true → reads Pattern ts ≡ err left → with_front front (reads Patterns ts) ≡ err left
patterns_fault = front_fault (starts kind pattern_kinds) (reads Pattern) (reads Patterns) (reads_by_rule Patterns)

pub ruleset patterns = (patterns_end, patterns_next, patterns_fault)

pub words_none : (ts : List Seen) → starts kind words ts ≡ false → reads Words ts ≡ ok [] ts
words_none = many_none (starts kind words) (text_at words) (reads Words) (reads_by_rule Words)

pub words_some : (ts : List Seen) → starts kind words ts ≡ true → reads Words ts ≡ by_rule names ts
words_some = many_some (starts kind words) (text_at words) (reads Words) (reads_by_rule Words)

pub ruleset words_by = (words_none, words_some)

pub names_begin : (ts : List Seen) → with_front [] (by_rule names ts) ≡ by_rule names ts
names_begin ts = without_front (by_rule names ts)

pub names_end : (front : List (List ℕ)) (ts rest : List Seen) (x : List ℕ) → text_at words ts ≡ ok x rest → starts kind words rest ≡ false
    → with_front front (by_rule names ts) ≡ ok (front ++ x ∷ []) rest
names_end = some_end (starts kind words) (text_at words) (reads Words) (reads_by_rule Words)

pub names_next : (front : List (List ℕ)) (ts rest : List Seen) (x : List ℕ) → text_at words ts ≡ ok x rest → starts kind words rest ≡ true
    → with_front front (by_rule names ts) ≡ with_front (front ++ x ∷ []) (by_rule names rest)
names_next = some_next (starts kind words) (text_at words) (reads Words) (reads_by_rule Words)

pub names_fault : (front : List (List ℕ)) (ts left : List Seen) → text_at words ts ≡ err left → with_front front (by_rule names ts) ≡ err left
names_fault = some_fault (starts kind words) (text_at words) (reads Words)

pub ruleset names_by = (names_begin, names_end, names_next, names_fault)

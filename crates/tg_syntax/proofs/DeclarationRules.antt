-- Each part of declarations is read as its rule says.
use Rattle.std.proofs.Common.{◌≡◌, true, false, List, [], ◌∷◌, ◌++◌}
use Rattle.tg_rules.specs.Reader.{ok, err, starts}
use Rattle.tg_rules.specs.Repetition.{with_front}
use Rattle.tg_rules.proofs.Repetition.{front_end, front_next, front_fault, without_front, some_fault, some_end, some_next}
use Rattle.tg_grammar.specs.Page.{equations}
use Rattle.tg_reading.specs.Answers.{by_rule}
use Rattle.tg_grammar.specs.Seen.{Seen}
use Rattle.tg_grammar.specs.Reading.{kind, reads, step}
use Rattle.tg_grammar.proofs.Readings.{reads_by_rule}
use Rattle.tg_grammar.specs.declared.declarations.RawDecl.{RawDecl}
use Rattle.tg_grammar.specs.declared.declarations.RawEq.{RawEq}
use Rattle.tg_grammar.specs.First.{words, declaration_words}
use Rattle.tg_grammar.specs.Parts.{Theory, Declaration, Declarations, Equation, Equations}

pub theory_is : (ts : List Seen) → reads Theory ts ≡ step Theory ts
theory_is = reads_by_rule Theory

pub declaration_is : (ts : List Seen) → reads Declaration ts ≡ step Declaration ts
declaration_is = reads_by_rule Declaration

pub equation_is : (ts : List Seen) → reads Equation ts ≡ step Equation ts
equation_is = reads_by_rule Equation

-- ---- repetitions

pub declarations_end : (front : List RawDecl) (ts : List Seen) → starts kind declaration_words ts ≡ false → with_front front (reads Declarations ts) ≡ ok front ts
declarations_end = front_end (starts kind declaration_words) (reads Declaration) (reads Declarations) (reads_by_rule Declarations)

pub declarations_next : (front : List RawDecl) (ts rest : List Seen) (x : RawDecl) → starts kind declaration_words ts ≡ true → reads Declaration ts ≡ ok x rest
    → with_front front (reads Declarations ts) ≡ with_front (front ++ x ∷ []) (reads Declarations rest)
declarations_next = front_next (starts kind declaration_words) (reads Declaration) (reads Declarations) (reads_by_rule Declarations)

pub declarations_fault : (front : List RawDecl) (ts left : List Seen) → starts kind declaration_words ts ≡ true → reads Declaration ts ≡ err left → with_front front (reads Declarations ts) ≡ err left
declarations_fault = front_fault (starts kind declaration_words) (reads Declaration) (reads Declarations) (reads_by_rule Declarations)

pub ruleset declarations = (declarations_end, declarations_next, declarations_fault)

pub equations_begin : (ts : List Seen) → with_front [] (by_rule equations ts) ≡ by_rule equations ts
equations_begin ts = without_front (by_rule equations ts)

pub equations_end : (front : List RawEq) (ts rest : List Seen) (x : RawEq) → reads Equation ts ≡ ok x rest → starts kind words rest ≡ false
    → with_front front (by_rule equations ts) ≡ ok (front ++ x ∷ []) rest
equations_end = some_end (starts kind words) (reads Equation) (reads Equations) (reads_by_rule Equations)

pub equations_next : (front : List RawEq) (ts rest : List Seen) (x : RawEq) → reads Equation ts ≡ ok x rest → starts kind words rest ≡ true
    → with_front front (by_rule equations ts) ≡ with_front (front ++ x ∷ []) (by_rule equations rest)
equations_next = some_next (starts kind words) (reads Equation) (reads Equations) (reads_by_rule Equations)

pub equations_fault : (front : List RawEq) (ts left : List Seen) → reads Equation ts ≡ err left → with_front front (by_rule equations ts) ≡ err left
equations_fault = some_fault (starts kind words) (reads Equation) (reads Equations)

pub ruleset equations_by = (equations_begin, equations_end, equations_next, equations_fault)

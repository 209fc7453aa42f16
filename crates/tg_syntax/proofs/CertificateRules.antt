-- Each part of certificates, and each whole text of several parts, is read as its rule says.
use Rattle.std.proofs.Common.{◌≡◌, ℕ, true, false, List, [], ◌∷◌, ◌++◌}
use Rattle.tg_rules.specs.Reader.{ok, err, starts, token_at}
use Rattle.tg_rules.specs.Repetition.{with_front}
use Rattle.tg_rules.proofs.Repetition.{front_end, front_next, front_fault, without_front, last_one, one_behind, some_fault}
use Rattle.tg_grammar.specs.Seen.{Seen}
use Rattle.tg_grammar.specs.Reading.{kind, reads, step}
use Rattle.tg_grammar.proofs.Readings.{reads_by_rule}
use Rattle.tg_grammar.specs.declared.types.RawTy.{RawTy}
use Rattle.tg_grammar.specs.declared.certificates.RawLine.{RawLine}
use Rattle.tg_grammar.specs.First.{numbers}
use Rattle.tg_grammar.specs.Kinds.{comma}
use Rattle.tg_grammar.specs.Parts.{Judge, Check, Certificate, Lines, Line, Context, Numbers, TypeAtom, MoreTypeAtoms}
use Rattle.tg_reading.specs.Answers.{value_at}
use Rattle.tg_syntax.specs.Steps.{type_atoms_by_commas}

pub judge_is : (ts : List Seen) → reads Judge ts ≡ step Judge ts
judge_is = reads_by_rule Judge

pub check_is : (ts : List Seen) → reads Check ts ≡ step Check ts
check_is = reads_by_rule Check

pub certificate_is : (ts : List Seen) → reads Certificate ts ≡ step Certificate ts
certificate_is = reads_by_rule Certificate

pub line_is : (ts : List Seen) → reads Line ts ≡ step Line ts
line_is = reads_by_rule Line

pub context_is : (ts : List Seen) → reads Context ts ≡ step Context ts
context_is = reads_by_rule Context

-- ---- repetitions

pub lines_end : (front : List RawLine) (ts : List Seen) → starts kind numbers ts ≡ false → with_front front (reads Lines ts) ≡ ok front ts
lines_end = front_end (starts kind numbers) (reads Line) (reads Lines) (reads_by_rule Lines)

pub lines_next : (front : List RawLine) (ts rest : List Seen) (x : RawLine) → starts kind numbers ts ≡ true → reads Line ts ≡ ok x rest
    → with_front front (reads Lines ts) ≡ with_front (front ++ x ∷ []) (reads Lines rest)
lines_next = front_next (starts kind numbers) (reads Line) (reads Lines) (reads_by_rule Lines)

pub lines_fault : (front : List RawLine) (ts left : List Seen) → starts kind numbers ts ≡ true → reads Line ts ≡ err left → with_front front (reads Lines ts) ≡ err left
lines_fault = front_fault (starts kind numbers) (reads Line) (reads Lines) (reads_by_rule Lines)

pub ruleset lines = (lines_end, lines_next, lines_fault)

pub numbers_end : (front : List ℕ) (ts : List Seen) → starts kind numbers ts ≡ false → with_front front (reads Numbers ts) ≡ ok front ts
numbers_end = front_end (starts kind numbers) (value_at numbers) (reads Numbers) (reads_by_rule Numbers)

pub numbers_next : (front : List ℕ) (ts rest : List Seen) (x : ℕ) → starts kind numbers ts ≡ true → value_at numbers ts ≡ ok x rest
    → with_front front (reads Numbers ts) ≡ with_front (front ++ x ∷ []) (reads Numbers rest)
numbers_next = front_next (starts kind numbers) (value_at numbers) (reads Numbers) (reads_by_rule Numbers)

pub numbers_fault : (front : List ℕ) (ts left : List Seen) → starts kind numbers ts ≡ true → value_at numbers ts ≡ err left → with_front front (reads Numbers ts) ≡ err left
numbers_fault = front_fault (starts kind numbers) (value_at numbers) (reads Numbers) (reads_by_rule Numbers)

pub ruleset numbers_by = (numbers_end, numbers_next, numbers_fault)

pub type_atoms_begin : (ts : List Seen) → with_front [] (type_atoms_by_commas ts) ≡ type_atoms_by_commas ts
type_atoms_begin ts = without_front (type_atoms_by_commas ts)

pub type_atoms_end : (front : List RawTy) (ts rest : List Seen) (x : RawTy) → reads TypeAtom ts ≡ ok x rest → starts kind (comma ∷ []) rest ≡ false
    → with_front front (type_atoms_by_commas ts) ≡ ok (front ++ x ∷ []) rest
type_atoms_end = last_one (starts kind (comma ∷ [])) (reads TypeAtom) (reads MoreTypeAtoms) (token_at kind (comma ∷ [])) (reads_by_rule MoreTypeAtoms)

pub type_atoms_next : (front : List RawTy) (ts rest left : List Seen) (x : RawTy) (s : Seen) → reads TypeAtom ts ≡ ok x rest → starts kind (comma ∷ []) rest ≡ true
    → token_at kind (comma ∷ []) rest ≡ ok s left → with_front front (type_atoms_by_commas ts) ≡ with_front (front ++ x ∷ []) (type_atoms_by_commas left)
type_atoms_next = one_behind (starts kind (comma ∷ [])) (reads TypeAtom) (reads MoreTypeAtoms) (token_at kind (comma ∷ [])) (reads_by_rule MoreTypeAtoms)

pub type_atoms_fault : (front : List RawTy) (ts left : List Seen) → reads TypeAtom ts ≡ err left → with_front front (type_atoms_by_commas ts) ≡ err left
type_atoms_fault = some_fault (starts kind (comma ∷ [])) (reads TypeAtom) (reads MoreTypeAtoms)

pub ruleset type_atoms_by = (type_atoms_begin, type_atoms_end, type_atoms_next, type_atoms_fault)

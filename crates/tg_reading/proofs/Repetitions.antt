-- Repetitions, read one after another: what was read so far stands in front of what is still read.
use Rattle.std.proofs.Common.{◌≡◌, true, false, List, [], ◌∷◌, ◌++◌}
use Rattle.tg_rules.specs.Reader.{Read, ok, err, starts, token_at}
use Rattle.tg_rules.specs.Repetition.{with_front}
use Rattle.tg_rules.proofs.Repetition.{front_end, front_next, front_fault, without_front, last_one, one_behind, some_fault}
use Rattle.tg_grammar.specs.declared.types.RawTy.{RawTy}
use Rattle.tg_grammar.specs.Seen.{Seen}
use Rattle.tg_grammar.specs.Kinds.{comma, double_arrow}
use Rattle.tg_grammar.specs.First as classes
use Rattle.tg_grammar.specs.Parts.{WholeType, MoreTypes, MoreResults, FunctionType, TypeAtom, TypeAtoms}
use Rattle.tg_grammar.specs.Reading.{kind, reads}
use Rattle.tg_grammar.proofs.Readings.{reads_by_rule}
use Rattle.tg_reading.specs.Pieces as pieces

abbrev by_commas : List Seen → Read Seen (List RawTy)
by_commas = pieces.types_by_commas

pub commas_end : (front : List RawTy) (ts rest : List Seen) (t : RawTy) → reads WholeType ts ≡ ok t rest → starts kind (comma ∷ []) rest ≡ false
    → with_front front (by_commas ts) ≡ ok (front ++ t ∷ []) rest
commas_end = last_one (starts kind (comma ∷ [])) (reads WholeType) (reads MoreTypes) (token_at kind (comma ∷ [])) (reads_by_rule MoreTypes)

pub commas_next : (front : List RawTy) (ts rest left : List Seen) (t : RawTy) (s : Seen) → reads WholeType ts ≡ ok t rest → starts kind (comma ∷ []) rest ≡ true
    → token_at kind (comma ∷ []) rest ≡ ok s left → with_front front (by_commas ts) ≡ with_front (front ++ t ∷ []) (by_commas left)
commas_next = one_behind (starts kind (comma ∷ [])) (reads WholeType) (reads MoreTypes) (token_at kind (comma ∷ [])) (reads_by_rule MoreTypes)

pub commas_fault : (front : List RawTy) (ts left : List Seen) → reads WholeType ts ≡ err left → with_front front (by_commas ts) ≡ err left
commas_fault = some_fault (starts kind (comma ∷ [])) (reads WholeType) (reads MoreTypes)

pub ruleset types_by_commas = (commas_end, commas_next, commas_fault)

abbrev by_arrows : List Seen → Read Seen (List RawTy)
by_arrows = reads FunctionType

arrows_are : (ts : List Seen) → by_arrows ts ≡ pieces.types_by_arrows ts
arrows_are = reads_by_rule FunctionType

pub arrows_begin : (ts : List Seen) → with_front [] (by_arrows ts) ≡ by_arrows ts
arrows_begin ts = without_front (by_arrows ts)

pub arrows_end : (front : List RawTy) (ts rest : List Seen) (t : RawTy) → reads WholeType ts ≡ ok t rest → starts kind (double_arrow ∷ []) rest ≡ false
    → with_front front (by_arrows ts) ≡ ok (front ++ t ∷ []) rest
arrows_end front ts rest t read e =
    rw (arrows_are ts) (last_one (starts kind (double_arrow ∷ [])) (reads WholeType) (reads MoreResults) (token_at kind (double_arrow ∷ [])) (reads_by_rule MoreResults) front ts rest t read e)

pub arrows_next : (front : List RawTy) (ts rest left : List Seen) (t : RawTy) (s : Seen) → reads WholeType ts ≡ ok t rest → starts kind (double_arrow ∷ []) rest ≡ true
    → token_at kind (double_arrow ∷ []) rest ≡ ok s left → with_front front (by_arrows ts) ≡ with_front (front ++ t ∷ []) (by_arrows left)
arrows_next front ts rest left t s read e token =
    rw (arrows_are ts, arrows_are left) (one_behind (starts kind (double_arrow ∷ [])) (reads WholeType) (reads MoreResults) (token_at kind (double_arrow ∷ [])) (reads_by_rule MoreResults) front ts rest left t s read e token)

pub arrows_fault : (front : List RawTy) (ts left : List Seen) → reads WholeType ts ≡ err left → with_front front (by_arrows ts) ≡ err left
arrows_fault front ts left read = rw (arrows_are ts) (some_fault (starts kind (double_arrow ∷ [])) (reads WholeType) (reads MoreResults) front ts left read)

pub ruleset types_by_arrows = (arrows_begin, arrows_end, arrows_next, arrows_fault)

pub type_atoms_end : (front : List RawTy) (ts : List Seen) → starts kind classes.type_atoms ts ≡ false → with_front front (reads TypeAtoms ts) ≡ ok front ts
type_atoms_end = front_end (starts kind classes.type_atoms) (reads TypeAtom) (reads TypeAtoms) (reads_by_rule TypeAtoms)

pub type_atoms_next : (front : List RawTy) (ts rest : List Seen) (t : RawTy) → starts kind classes.type_atoms ts ≡ true → reads TypeAtom ts ≡ ok t rest
    → with_front front (reads TypeAtoms ts) ≡ with_front (front ++ t ∷ []) (reads TypeAtoms rest)
type_atoms_next = front_next (starts kind classes.type_atoms) (reads TypeAtom) (reads TypeAtoms) (reads_by_rule TypeAtoms)

pub type_atoms_fault : (front : List RawTy) (ts left : List Seen) → starts kind classes.type_atoms ts ≡ true → reads TypeAtom ts ≡ err left
    → with_front front (reads TypeAtoms ts) ≡ err left
type_atoms_fault = front_fault (starts kind classes.type_atoms) (reads TypeAtom) (reads TypeAtoms) (reads_by_rule TypeAtoms)

pub ruleset type_atoms = (type_atoms_end, type_atoms_next, type_atoms_fault)

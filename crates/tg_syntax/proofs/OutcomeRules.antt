-- Each part of outcomes is read as its rule says.
use Rattle.std.proofs.Common.{◌≡◌, ℕ, true, false, List, [], ◌∷◌, ◌++◌, refl, ap, ◌∙◌}
use Rattle.tg_rules.specs.Reader.{Read, ok, err, mapped, followed, starts, token_at}
use Rattle.tg_rules.specs.Repetition.{with_front}
use Rattle.tg_rules.proofs.Repetition.{front_end, front_next, front_fault}
use Rattle.tg_grammar.specs.declared.outcomes.RawOutcomes.{RawOutcomes}
use Rattle.tg_grammar.specs.declared.outcomes.RawItem.{RawItem}
use Rattle.tg_grammar.specs.declared.terms.RawTerm.{RawTerm}
use Rattle.tg_grammar.specs.Seen.{Seen}
use Rattle.tg_grammar.specs.Kinds.{answer_word, raised_word, outcomes_word, depth_word, bound_word, seed_word, tries_word, width_word, begin_word, end_word}
use Rattle.tg_reading.specs.Answers.{behind}
use Rattle.tg_syntax.specs.Outcomes.{setting}
use Rattle.tg_syntax.proofs.Moving.{next_same, setting_first}
use Rattle.tg_grammar.specs.First.{atoms}
use Rattle.tg_grammar.specs.Parts.{in_theory, Outcomes, Items, Item, Answer, AnswerAtom, AnswerAtoms, PlainAnswer}
use Rattle.tg_grammar.specs.Reading.{kind, reads, step}
use Rattle.tg_grammar.proofs.Readings.{reads_by_rule}

-- the header and the outcomes, each word of the header with its number
abbrev pub items_read : List Seen → Read Seen (List RawItem)
items_read ts = mapped {A = Seen × List RawItem} (λ x. x.1) (followed (token_at kind (begin_word ∷ []) ts) (λ ts. mapped {A = List RawItem × Seen} (λ x. x.0) (followed (reads Items ts) (token_at kind (end_word ∷ [])))))

abbrev pub from_width : List Seen → Read Seen (ℕ × List RawItem)
from_width ts = followed (setting width_word ts) items_read

abbrev pub from_tries : List Seen → Read Seen (ℕ × (ℕ × List RawItem))
from_tries ts = followed (setting tries_word ts) from_width

abbrev pub from_seed : List Seen → Read Seen (ℕ × (ℕ × (ℕ × List RawItem)))
from_seed ts = followed (setting seed_word ts) from_tries

abbrev pub from_bound : List Seen → Read Seen (ℕ × (ℕ × (ℕ × (ℕ × List RawItem))))
from_bound ts = followed (setting bound_word ts) from_seed

abbrev pub from_depth : List Seen → Read Seen (ℕ × (ℕ × (ℕ × (ℕ × (ℕ × List RawItem)))))
from_depth ts = followed (setting depth_word ts) from_bound

abbrev pub outcomes_made : ℕ × (ℕ × (ℕ × (ℕ × (ℕ × List RawItem)))) → RawOutcomes
outcomes_made x = record { settings = x.0 ∷ x.1.0 ∷ x.1.1.0 ∷ x.1.1.1.0 ∷ x.1.1.1.1.0 ∷ []; items = x.1.1.1.1.1 }

pub outcomes_is : (ts : List Seen) → reads Outcomes ts ≡ mapped outcomes_made (behind outcomes_word from_depth ts)
outcomes_is ts = reads_by_rule Outcomes ts ∙ ap (mapped outcomes_made) (ap (mapped (λ x. x.1)) (next_same (token_at kind (outcomes_word ∷ []) ts) _ from_depth
    (setting_first depth_word _ from_bound (setting_first bound_word _ from_seed (setting_first seed_word _ from_tries (setting_first tries_word _ from_width (setting_first width_word _ items_read (λ ts. refl))))))))

pub item_is : (ts : List Seen) → reads Item ts ≡ step Item ts
item_is = reads_by_rule Item

pub answer_is : (ts : List Seen) → reads Answer ts ≡ step Answer ts
answer_is = reads_by_rule Answer

pub answer_atom_is : (ts : List Seen) → reads AnswerAtom ts ≡ step AnswerAtom ts
answer_atom_is = reads_by_rule AnswerAtom

pub plain_answer_is : (ts : List Seen) → reads PlainAnswer ts ≡ step PlainAnswer ts
plain_answer_is = reads_by_rule PlainAnswer

-- ---- repetitions

abbrev pub item_kinds : List ℕ
item_kinds = answer_word ∷ raised_word ∷ []

pub items_end : (front : List RawItem) (ts : List Seen) → starts kind item_kinds ts ≡ false → with_front front (reads Items ts) ≡ ok front ts
items_end = front_end (starts kind item_kinds) (reads Item) (reads Items) (reads_by_rule Items)

pub items_next : (front : List RawItem) (ts rest : List Seen) (t : RawItem) → starts kind item_kinds ts ≡ true → reads Item ts ≡ ok t rest
    → with_front front (reads Items ts) ≡ with_front (front ++ t ∷ []) (reads Items rest)
items_next = front_next (starts kind item_kinds) (reads Item) (reads Items) (reads_by_rule Items)

pub items_fault : (front : List RawItem) (ts left : List Seen) → starts kind item_kinds ts ≡ true → reads Item ts ≡ err left
    → with_front front (reads Items ts) ≡ err left
items_fault = front_fault (starts kind item_kinds) (reads Item) (reads Items) (reads_by_rule Items)

pub ruleset items = (items_end, items_next, items_fault)

pub answer_atoms_end : (front : List RawTerm) (ts : List Seen) → starts kind (atoms in_theory) ts ≡ false → with_front front (reads AnswerAtoms ts) ≡ ok front ts
answer_atoms_end = front_end (starts kind (atoms in_theory)) (reads AnswerAtom) (reads AnswerAtoms) (reads_by_rule AnswerAtoms)

pub answer_atoms_next : (front : List RawTerm) (ts rest : List Seen) (t : RawTerm) → starts kind (atoms in_theory) ts ≡ true → reads AnswerAtom ts ≡ ok t rest
    → with_front front (reads AnswerAtoms ts) ≡ with_front (front ++ t ∷ []) (reads AnswerAtoms rest)
answer_atoms_next = front_next (starts kind (atoms in_theory)) (reads AnswerAtom) (reads AnswerAtoms) (reads_by_rule AnswerAtoms)

pub answer_atoms_fault : (front : List RawTerm) (ts left : List Seen) → starts kind (atoms in_theory) ts ≡ true → reads AnswerAtom ts ≡ err left
    → with_front front (reads AnswerAtoms ts) ≡ err left
answer_atoms_fault = front_fault (starts kind (atoms in_theory)) (reads AnswerAtom) (reads AnswerAtoms) (reads_by_rule AnswerAtoms)

pub ruleset answer_atoms_by = (answer_atoms_end, answer_atoms_next, answer_atoms_fault)

-- Each part of a term is read as its rule says.
use Rattle.std.proofs.Common.{◌≡◌, ℕ, ◌||◌, List, [], ◌∷◌, ◌++◌, refl, arith}
use Rattle.tg_rules.specs.Rule.{has}
use Rattle.tg_rules.specs.Reader.{starts}
use Rattle.tg_grammar.specs.Seen.{Seen}
use Rattle.tg_grammar.specs.Parts.{Mode, Term, Variable, Branch, BranchHead, Implication, Disjunction, Conjunction, Negation, Comparison, Application, Atom, PlainAtom}
use Rattle.tg_grammar.specs.Reading.{kind, reads, step}
use Rattle.tg_grammar.proofs.Readings.{reads_by_rule}

pub term_is : (m : Mode) (ts : List Seen) → reads (Term m) ts ≡ step (Term m) ts
term_is m = reads_by_rule (Term m)

pub variable_is : (m : Mode) (ts : List Seen) → reads (Variable m) ts ≡ step (Variable m) ts
variable_is m = reads_by_rule (Variable m)

pub branch_is : (m : Mode) (ts : List Seen) → reads (Branch m) ts ≡ step (Branch m) ts
branch_is m = reads_by_rule (Branch m)

pub branch_head_is : (m : Mode) (ts : List Seen) → reads (BranchHead m) ts ≡ step (BranchHead m) ts
branch_head_is m = reads_by_rule (BranchHead m)

pub implication_is : (m : Mode) (ts : List Seen) → reads (Implication m) ts ≡ step (Implication m) ts
implication_is m = reads_by_rule (Implication m)

pub disjunction_is : (m : Mode) (ts : List Seen) → reads (Disjunction m) ts ≡ step (Disjunction m) ts
disjunction_is m = reads_by_rule (Disjunction m)

pub conjunction_is : (m : Mode) (ts : List Seen) → reads (Conjunction m) ts ≡ step (Conjunction m) ts
conjunction_is m = reads_by_rule (Conjunction m)

pub negation_is : (m : Mode) (ts : List Seen) → reads (Negation m) ts ≡ step (Negation m) ts
negation_is m = reads_by_rule (Negation m)

pub comparison_is : (m : Mode) (ts : List Seen) → reads (Comparison m) ts ≡ step (Comparison m) ts
comparison_is m = reads_by_rule (Comparison m)

pub application_is : (m : Mode) (ts : List Seen) → reads (Application m) ts ≡ step (Application m) ts
application_is m = reads_by_rule (Application m)

pub atom_is : (m : Mode) (ts : List Seen) → reads (Atom m) ts ≡ step (Atom m) ts
atom_is m = reads_by_rule (Atom m)

pub plain_atom_is : (m : Mode) (ts : List Seen) → reads (PlainAtom m) ts ≡ step (PlainAtom m) ts
plain_atom_is m = reads_by_rule (PlainAtom m)

-- ---- the next token is of one of two classes

has_either : (ks ls : List ℕ) (k : ℕ) → has (ks ++ ls) k ≡ (has ks k || has ls k)
has_either [] ls k = refl
has_either (j ∷ ks) ls k = grind (arith, has_either ks ls k)

pub starts_either : (ks ls : List ℕ) (ts : List Seen) → starts kind (ks ++ ls) ts ≡ (starts kind ks ts || starts kind ls ts)
starts_either ks ls [] = refl
starts_either ks ls (t ∷ ts) = has_either ks ls t.kind

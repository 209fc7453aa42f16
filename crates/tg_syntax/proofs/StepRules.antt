-- A step is read bs its row of the table says.
use Rattle.std.proofs.Common.{◌≡◌, ℕ, ◌+◌, ◌<◌, length, drop, get_or, Bool, true, false, ◌||◌, nat_eq, List, [], ◌∷◌, ◌++◌, Option, Some, None, inl, inr, refl, sym, ap, ◌∙◌, append_assoc, append-nil}
use Rattle.std.proofs.lemmas.Bool.{cases_Bool}
use Rattle.std.proofs.lemmas.List.{drop_more}
use Rattle.tg_rules.specs.Rule.{has}
use Rattle.tg_rules.specs.Reader.{Read, ok, err, out, mapped, followed, starts}
use Rattle.tg_grammar.specs.declared.certificates.Argument.{Argument}
use Rattle.tg_grammar.specs.declared.certificates.RawLine.{RawLine}
use Rattle.tg_grammar.specs.First.{rules}
use Rattle.tg_grammar.specs.Making.{no_arguments, with_arguments, later, line_of, of_rule}
use Rattle.tg_grammar.specs.Notation.{quoted}
use Rattle.tg_grammar.specs.Parts.{Step}
use Rattle.tg_grammar.specs.Reading.{kind, reads}
use Rattle.tg_grammar.specs.Seen.{Seen}
use Rattle.tg_grammar.specs.Steps.{RuleRow, argument, arguments, row, rows, first_row, other_rows}
use Rattle.tg_grammar.proofs.Readings.{reads_by_rule}
use Rattle.tg_reading.specs.Answers.{by_rule, rule_at}
use Rattle.tg_syntax.specs.Steps.{arguments_read, arguments_in, arguments_of}

-- ---- lines

same_line : (x y : RawLine) → x.nums ≡ y.nums → x.vars ≡ y.vars → x.word ≡ y.word → x.formula ≡ y.formula → x.terms ≡ y.terms
    → x.number ≡ y.number → x.rule ≡ y.rule → x ≡ y
same_line x y a b c d e f g = λ i. record { number = f i; rule = g i; nums = a i; vars = b i; word = c i; formula = d i; terms = e i }

later_later : {A : Type 0} (a b c : Option A) → later (later a b) c ≡ later a (later b c)
later_later a b None = refl
later_later a b (Some c) = refl

nothing_more : (x : RawLine) → with_arguments x no_arguments ≡ x
nothing_more x = same_line _ x (append-nil x.nums) (append-nil x.vars) refl refl (append-nil x.terms) refl refl

one_behind_other : (x y z : RawLine) → with_arguments (with_arguments x y) z ≡ with_arguments x (with_arguments y z)
one_behind_other x y z =
    same_line _ _ (append_assoc x.nums y.nums z.nums) (append_assoc x.vars y.vars z.vars) (later_later x.word y.word z.word) (later_later x.formula y.formula z.formula)
    (append_assoc x.terms y.terms z.terms) refl refl

-- ---- arguments

last_argument : (r : Read Seen RawLine) → r ≡ mapped (λ x. with_arguments x.0 x.1) (followed {B = RawLine} r (λ left. ok no_arguments left))
last_argument (ok x left) = ap (λ z. ok z left) (sym (nothing_more x))
last_argument (err left) = refl
last_argument out = refl

same_rest : (r : Read Seen RawLine) (f g : List Seen → Read Seen RawLine) → ((ts : List Seen) → f ts ≡ g ts) → followed r f ≡ followed r g
same_rest (ok x left) f g same = ap (mapped {B = RawLine × RawLine} (λ y. (x, y))) (same left)
same_rest (err left) f g same = refl
same_rest out f g same = refl

are_read : (a : Argument) (bs : List Argument) (ts : List Seen) → by_rule (arguments a bs) ts ≡ arguments_read (a ∷ bs) ts
are_read a [] ts = last_argument (by_rule (argument a) ts)
are_read a (b ∷ bs) ts = ap (mapped (λ x. with_arguments x.0 x.1)) (same_rest (by_rule (argument a) ts) (by_rule (arguments b bs)) (arguments_read (b ∷ bs)) (are_read b bs))

-- ---- rows

abbrev row_kinds : RuleRow → List RuleRow → List ℕ
row_kinds r [] = quoted r.name ∷ []
row_kinds r (s ∷ ss) = quoted r.name ∷ row_kinds s ss

rule_made : (t : Seen) (r : Read Seen RawLine) → mapped (λ x. of_rule x.0.kind x.1) (mapped {B = Seen × RawLine} (λ b. (t, b)) r) ≡ mapped (with_arguments (line_of t.kind)) r
rule_made t (ok x left) = refl
rule_made t (err left) = refl
rule_made t out = refl

row_read : (r : RuleRow) (t : Seen) (left : List Seen) → nat_eq (quoted r.name) t.kind ≡ true
    → by_rule (row r) (t ∷ left) ≡ mapped (with_arguments (line_of t.kind)) (arguments_read (r.first ∷ r.others) left)
row_read r t left e = rw e (rule_made t (by_rule (arguments r.first r.others) left) ∙ ap (mapped (with_arguments (line_of t.kind))) (are_read r.first r.others left))

or_false : (b : Bool) → (b || false) ≡ b
or_false true = refl
or_false false = refl

rows_read : (r : RuleRow) (ss : List RuleRow) (t : Seen) (left : List Seen) → has (row_kinds r ss) t.kind ≡ true
    → by_rule (rows r ss) (t ∷ left) ≡ mapped (with_arguments (line_of t.kind)) (arguments_read (arguments_in t.kind r ss) left)
rows_read r [] t left e = row_read r t left (sym (or_false (nat_eq (quoted r.name) t.kind)) ∙ e)
rows_read r (s ∷ ss) t left e = elim (cases_Bool (nat_eq (quoted r.name) t.kind)) [
  | inl same ↦ rw same (rw same at (row_read r t left same))
  | inr other ↦ rw other (rows_read s ss t left (rw other at e))
]

rows_fault : (r : RuleRow) (ss : List RuleRow) (ts : List Seen) → starts kind (row_kinds r ss) ts ≡ false → by_rule (rows r ss) ts ≡ err ts
rows_fault r [] [] e = refl
rows_fault r (s ∷ ss) [] e = rows_fault s ss [] refl
rows_fault r [] (t ∷ ts) e = elim (cases_Bool (nat_eq (quoted r.name) t.kind)) [
  | inl same ↦ let wrong : true ≡ false = rw same at e in absurd cc
  | inr other ↦ rw other refl
]
rows_fault r (s ∷ ss) (t ∷ ts) e = elim (cases_Bool (nat_eq (quoted r.name) t.kind)) [
  | inl same ↦ let wrong : true ≡ false = rw same at e in absurd cc
  | inr other ↦ rw other (rows_fault s ss (t ∷ ts) (rw other at e))
]

-- ---- steps

kinds_are : row_kinds first_row other_rows ≡ rules
kinds_are = refl

pub step_goes_on : (ts left : List Seen) (k : ℕ) → rule_at ts ≡ ok k left → reads Step ts ≡ mapped (with_arguments (line_of k)) (arguments_read (arguments_of k) left)
unfolding arguments_of
step_goes_on [] left k e = cc
step_goes_on (t ∷ ts) left k e = elim (cases_Bool (has rules t.kind)) [
  | inl told ↦
      let taken : ok t.kind ts ≡ ok k left = rw told at e in
      let same : t.kind ≡ k = cc in
      let rest : ts ≡ left = cc in
      reads_by_rule Step (t ∷ ts) ∙ rows_read first_row other_rows t ts told ∙ rw (same, rest) refl
  | inr none ↦ let wrong : err (t ∷ ts) ≡ ok k left = rw none at e in cc
]

last_left : (t : Seen) (ts left : List Seen) → let at : List Seen → Read Seen ℕ = λ z. err z in at (t ∷ ts) ≡ at left → t ∷ ts ≡ left
last_left t ts left e = cc

pub step_fault : (ts left : List Seen) → rule_at ts ≡ err left → reads Step ts ≡ err left
step_fault [] left e = let same : [] ≡ left = cc in reads_by_rule Step [] ∙ rows_fault first_row other_rows [] refl ∙ ap err same
step_fault (t ∷ ts) left e = elim (cases_Bool (has rules t.kind)) [
  | inl told ↦ let wrong : ok t.kind ts ≡ err left = rw told at e in cc
  | inr none ↦
      let same : t ∷ ts ≡ left = last_left t ts left (rw none at e) in
      reads_by_rule Step (t ∷ ts) ∙ rows_fault first_row other_rows (t ∷ ts) none ∙ ap err same
]

pub ruleset step_by = (step_goes_on, step_fault)

-- ---- the loop

added : (line x : RawLine) (r : Read Seen RawLine)
    → mapped (with_arguments line) (mapped (λ y. with_arguments y.0 y.1) (mapped {B = RawLine × RawLine} (λ y. (x, y)) r)) ≡ mapped (with_arguments (with_arguments line x)) r
added line x (ok y left) = ap (λ z. ok z left) (sym (one_behind_other line x y))
added line x (err left) = refl
added line x out = refl

pub argument_added : (line more : RawLine) (a : Argument) (bs : List Argument) (ts left : List Seen) → mapped (with_arguments line) (by_rule (argument a) ts) ≡ ok more left
    → mapped (with_arguments line) (arguments_read (a ∷ bs) ts) ≡ mapped (with_arguments more) (arguments_read bs left)
argument_added line more a bs ts left e = go (by_rule (argument a) ts) e
  where
    go : (r : Read Seen RawLine) → mapped (with_arguments line) r ≡ ok more left
        → mapped (with_arguments line) (mapped (λ x. with_arguments x.0 x.1) (followed r (arguments_read bs))) ≡ mapped (with_arguments more) (arguments_read bs left)
    go (ok x end) made =
        let value : with_arguments line x ≡ more = cc in
        let same : end ≡ left = cc in
        added line x (arguments_read bs end) ∙ rw (value, same) refl
    go (err end) made = cc
    go out made = cc

pub loop_next : (line more : RawLine) (all : List Argument) (i : ℕ) (d : Argument) (ts left : List Seen) → i < length all
    → mapped (with_arguments line) (by_rule (argument (get_or all i d)) ts) ≡ ok more left
    → mapped (with_arguments line) (arguments_read (drop i all) ts) ≡ mapped (with_arguments more) (arguments_read (drop (i + 1) all) left)
loop_next line more all i d ts left low e =
    ap (λ z. mapped (with_arguments line) (arguments_read z ts)) (drop_more all i d low) ∙ argument_added line more (get_or all i d) (drop (i + 1) all) ts left e

pub argument_fault : (line : RawLine) (a : Argument) (bs : List Argument) (ts left : List Seen) → by_rule (argument a) ts ≡ err left
    → mapped (with_arguments line) (arguments_read (a ∷ bs) ts) ≡ err left
argument_fault line a bs ts left e = rw e refl

pub arguments_end : (line : RawLine) (ts : List Seen) → mapped (with_arguments line) (arguments_read [] ts) ≡ ok line ts
arguments_end line ts = ap (λ z. ok z ts) (nothing_more line)

pub ruleset arguments_by = (argument_added, argument_fault, arguments_end)

-- ---- one argument

pub appended_none : {A : Type 0} (xs : List A) → xs ++ [] ≡ xs
appended_none xs = append-nil xs

pub ruleset argument_by = (appended_none)

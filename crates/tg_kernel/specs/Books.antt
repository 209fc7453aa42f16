-- What the calls on a book promise.
use Rattle.std.specs.Prelude.{ℕ, suc, ◌≡◌, ◌≤◌, List, [], ◌∷◌, ◌++◌, length, Option, option_map}
use Rattle.tg_model.specs.Formula.{Sequent}
use Rattle.tg_model.specs.Theory.{Theory, numbered}
use Rattle.tg_model.specs.Table.{Table, IsTable}
use Rattle.tg_model.specs.Truth.{IsTrueOn}
use Rattle.tg_calculus.specs.Rule as calculus
use Rattle.tg_calculus.specs.Rule.{Rule}
use Rattle.tg_calculus.specs.Book.{Line, Entry, sequents, IsInstance}

pub record Book : Type 0 where
  pub theory : Theory
  pub entries : List Entry

abbrev pub with_line : Book → Line → Sequent → Book
with_line b l s = let e : Entry = record { line = l; sequent = s } in record { theory = b.theory; entries = b.entries ++ e ∷ [] }

-- the number is a line's
pub record IsLine (b : Book) (n : ℕ) : Type 0 where
  pub low : 1 ≤ n
  pub high : n ≤ length b.entries

-- The line is an instance of its rule, and its sequent is appended with it; the number is the line's.
pub record IsAppended (old new : Book) (l : Line) (n : ℕ) : Type 0 where
  pub sequent : Sequent
  pub instance : IsInstance old.theory (sequents old.entries) l sequent
  pub appended : new ≡ with_line old l sequent
  pub number : n ≡ suc (length old.entries)

-- the line is no instance of its rule on the lines of the book
abbrev pub IsNone : Book → Line → Type 0
IsNone b l = (s : Sequent) → ¬ (IsInstance b.theory (sequents b.entries) l s)

-- true at all values of the variables, on every table
abbrev pub IsTrueEverywhere : Theory → Sequent → Type 0
IsTrueEverywhere th s = (tb : Table) → IsTable th tb → IsTrueOn th tb s

-- the rule's number in the order of the calculus, from 1
abbrev pub rule_number : Rule → ℕ
rule_number (calculus.hyp G F) = 1
rule_number (calculus.weak F) = 2
rule_number calculus.cut = 3
rule_number (calculus.grow Ts) = 4
rule_number calculus.and_i = 5
rule_number calculus.and_l = 6
rule_number calculus.and_r = 7
rule_number (calculus.imp_i F) = 8
rule_number calculus.mp = 9
rule_number calculus.all_i = 10
rule_number (calculus.all_e t) = 11
rule_number (calculus.ex_i F t) = 12
rule_number calculus.ex_e = 13
rule_number calculus.thyp_i = 14
rule_number calculus.thyp_e = 15
rule_number (calculus.truth G) = 16
rule_number (calculus.falsity F) = 17
rule_number (calculus.split t) = 18
rule_number (calculus.reflexive G t) = 19
rule_number calculus.symmetric = 20
rule_number calculus.transitive = 21
rule_number (calculus.replace F) = 22
rule_number (calculus.schema G k t) = 23
rule_number (calculus.exhaust n) = 24
rule_number (calculus.deep G k ts) = 25
rule_number (calculus.compute G t) = 26

-- the line of a rule at premises
abbrev pub by : Rule → List ℕ → Line
by r ns = record { rule = r; premises = ns }

-- the line is an instance of its rule on the lines of the book
abbrev pub CanStep : Book → Line → Type 0
CanStep b l = (s : Sequent) × IsInstance b.theory (sequents b.entries) l s

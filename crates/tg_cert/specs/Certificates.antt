-- Certificates that prove a sequent, and where others fail.
use Rattle.std.specs.Prelude.{ℕ, suc, ◌≡◌, List, [], ◌∷◌, ◌++◌, length}
use Rattle.tg_model.specs.Formula.{Sequent}
use Rattle.tg_model.specs.Theory.{Theory}
use Rattle.tg_calculus.specs.Book.{Entry, IsInstance, sequents}
use Rattle.tg_grammar.specs.declared.certificates.RawLine.{RawLine}
use Rattle.tg_cert.specs.Lines.{Says}

-- The written line bears its place as its number, and what it says is an instance of its rule on earlier lines, of these sequents.
pub record IsEntry (th : Theory) (done : List Sequent) (r : RawLine) (e : Entry) : Type 0 where
  pub number : r.number ≡ suc (length done)
  pub says : Says th done r e.line
  pub instance : IsInstance th done e.line e.sequent

-- each of the lines is, on those before it
abbrev pub AreEntries : Theory → List Sequent → List RawLine → List Entry → Type 0
AreEntries th done [] [] = Unit {0}
AreEntries th done (r ∷ rs) (e ∷ es) = IsEntry th done r e × AreEntries th (done ++ e.sequent ∷ []) rs es
AreEntries th done rs es = ⊥

-- Each line of the certificate is an instance of its rule, and the last one has the sequent.
pub record Proves (th : Theory) (rs : List RawLine) (s : Sequent) : Type 0 where
  pub before : List Entry
  pub last : Entry
  pub lines : AreEntries th [] rs (before ++ last ∷ [])
  pub is : last.sequent ≡ s

-- The line at the place, from 1, is the first that bears another number or is no instance of its rule.
pub record FailsAt (th : Theory) (rs : List RawLine) (n : ℕ) : Type 0 where
  pub before : List RawLine
  pub line : RawLine
  pub after : List RawLine
  pub are : rs ≡ before ++ line ∷ after
  pub place : n ≡ suc (length before)
  pub entries : List Entry
  pub good : AreEntries th [] before entries
  pub none : (e : Entry) → ¬ (IsEntry th (sequents entries) line e)

-- The laws of certificates.
use Rattle.std.specs.Prelude.{ℕ, ◌≡◌, List}
use Rattle.tg_model.specs.Accepted.{IsAccepted}
use Rattle.tg_model.specs.Formula.{Sequent}
use Rattle.tg_model.specs.Theory.{Theory}
use Rattle.tg_calculus.specs.Derivation.{Derives}
use Rattle.tg_kernel.specs.Books.{IsTrueEverywhere}
use Rattle.tg_grammar.specs.declared.certificates.RawLine.{RawLine}
use Rattle.tg_cert.specs.Certificates.{Proves, FailsAt}

-- A certificate proves one sequent at most, fails at one place at most, and never both.
abbrev pub OneSequent : Type 0
OneSequent = (th : Theory) (rs : List RawLine) (s s' : Sequent) → Proves th rs s → Proves th rs s' → s ≡ s'

abbrev pub OneFault : Type 0
OneFault = (th : Theory) (rs : List RawLine) (m n : ℕ) → FailsAt th rs m → FailsAt th rs n → m ≡ n

abbrev pub NeverBoth : Type 0
NeverBoth = (th : Theory) (rs : List RawLine) (s : Sequent) (n : ℕ) → Proves th rs s → ¬ (FailsAt th rs n)

-- What it proves is derivable, and in an accepted theory true on every table, whoever wrote it.
abbrev pub ProvedIsDerivable : Type 0
ProvedIsDerivable = (th : Theory) (rs : List RawLine) (s : Sequent) → Proves th rs s → Derives th s

abbrev pub ProvedIsTrue : Type 0
ProvedIsTrue = (th : Theory) → IsAccepted th → (rs : List RawLine) (s : Sequent) → Proves th rs s → IsTrueEverywhere th s

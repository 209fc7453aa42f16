-- Books: lists of lines, each an instance of its rule on earlier lines, and lists of lines that are none.
use Rattle.std.specs.Prelude.{ℕ, suc, Bool, true, ◌≡◌, ◌↔◌, ◌&&◌, List, [], ◌∷◌, ◌++◌, map, length, Option, Some}
use Rattle.tg_model.specs.Formula.{Sequent}
use Rattle.tg_model.specs.Theory.{Theory, numbered}
use Rattle.tg_rows.specs.Parts.{only_if, and_then}
use Rattle.tg_calculus.specs.Rule.{Rule}
use Rattle.tg_calculus.specs.Step.{Step}
use Rattle.tg_calculus.specs.Draft.{Need, IsMet, draft}

-- what a line says: its rule, and the numbers of the earlier lines, from 1, that are its premises
pub record Line : Type 0 where
  pub rule : Rule
  pub premises : List ℕ

-- a line with its sequent
pub record Entry : Type 0 where
  pub line : Line
  pub sequent : Sequent

abbrev pub lines : List Entry → List Line
lines es = map (λ (e : Entry). e.line) es

abbrev pub sequents : List Entry → List Sequent
sequents es = map (λ (e : Entry). e.sequent) es

-- the sequents at the numbers, if each of these is a line's
abbrev pub premises_at : List Sequent → List ℕ → Option (List Sequent)
premises_at done [] = Some []
premises_at done (n ∷ ns) = and_then (numbered done n) (λ p. and_then (premises_at done ns) (λ ps. Some (p ∷ ps)))

-- the line gives the sequent where the earlier lines have the sequents `done`
pub record IsInstance (th : Theory) (done : List Sequent) (l : Line) (s : Sequent) : Type 0 where
  pub premises : List Sequent
  pub at : premises_at done l.premises ≡ Some premises
  pub step : Step th l.rule premises s

module _ (th : Theory) where
  abbrev pub Follow : List Sequent → List Entry → Type 0
  Follow done [] = Unit {0}
  Follow done (e ∷ es) = IsInstance th done e.line e.sequent × Follow (done ++ e.sequent ∷ []) es

  abbrev pub IsBook : List Entry → Type 0
  IsBook es = Follow [] es

  -- the lines are those of the book
  abbrev pub Passes : List Line → List Entry → Type 0
  Passes ls es = IsBook es × (lines es ≡ ls)

-- The lines before the n-th make a book, and the n-th is no instance of its rule on them.
pub record IsRefusedAt (th : Theory) (ls : List Line) (n : ℕ) : Type 0 where
  pub before : List Entry
  pub line : Line
  pub after : List Line
  pub book : IsBook th before
  pub are : ls ≡ lines before ++ line ∷ after
  pub place : n ≡ suc (length before)
  pub none : (s : Sequent) → ¬ (IsInstance th (sequents before) line s)

-- a test of needs, as a typing engine has one
abbrev pub Decides : Theory → (Need → Bool) → Type 0
Decides th ask = (n : Need) → (ask n ≡ true) ↔ IsMet th n

abbrev pub all_pass : (Need → Bool) → List Need → Bool
all_pass ask [] = true
all_pass ask (n ∷ ns) = ask n && all_pass ask ns

-- what the line gives, where a test says what is met
abbrev pub concluded : Theory → (Need → Bool) → List Sequent → Line → Option Sequent
concluded th ask done l =
    and_then (premises_at done l.premises) (λ ps. and_then (draft th l.rule ps) (λ d. only_if (all_pass ask d.needs) d.conclusion))

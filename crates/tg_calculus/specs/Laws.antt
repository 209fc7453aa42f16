-- The laws of the calculus.
use Rattle.std.specs.Prelude.{ℕ, Bool, List, [], ◌∷◌, ◌++◌, Some, false, ◌≡◌, ◌≢◌, ◌↔◌, ◌⊎◌}
use Rattle.tg_model.specs.Tree.{Tree, bound, free, truth}
use Rattle.tg_model.specs.Types.{Ty, bool}
use Rattle.tg_model.specs.Formula.{Formula, Sequent, atom, all}
use Rattle.tg_model.specs.Theory.{Theory}
use Rattle.tg_model.specs.Table.{Table, IsTable}
use Rattle.tg_model.specs.Truth.{IsTrueOn}
use Rattle.tg_model.specs.Accepted.{IsAccepted, IsAmong, AreDistinct}
use Rattle.tg_model.specs.Uses.{uses}
use Rattle.tg_rows.specs.Rows.{row}
use Rattle.tg_calculus.specs.Sequent.{Context, Hypotheses, ◌│◌⊢◌, Each, equation, ◌∪◌, ◌∖◌}
use Rattle.tg_calculus.specs.Rule.{Rule}
use Rattle.tg_calculus.specs.Step.{Step, IsContext, IsFormula, IsTerm}
use Rattle.tg_calculus.specs.Derivation.{Derives}
use Rattle.tg_calculus.specs.Draft.{Need, AreMet, draft, always}
use Rattle.tg_calculus.specs.Book.{Line, Entry, sequents, IsInstance, IsBook, Passes, IsRefusedAt, Decides, concluded}
use Rattle.tg_calculus.specs.Theorem.{IsTheorem, Follows}

-- A sequent is well formed: its context is closed, and its hypotheses and its goal are formulas of the context.
pub record IsFormed (th : Theory) (s : Sequent) : Type 0 where
  pub context : IsContext th s.vars
  pub each : Each (IsFormula th s.vars) s.hypotheses
  pub goal : IsFormula th s.vars s.goal

-- Rule by rule: well-formed premises give a well-formed sequent.
abbrev pub StepsKeepForm : Type 0
StepsKeepForm = (th : Theory) (r : Rule) (ps : List Sequent) (s : Sequent) → Step th r ps s → Each (IsFormed th) ps → IsFormed th s

-- What is derivable is well formed.
abbrev pub DerivableIsFormed : Type 0
DerivableIsFormed = (th : Theory) (s : Sequent) → Derives th s → IsFormed th s

-- Rule by rule, in an accepted theory: where the premises are well formed, and true on a table, the sequent is true on it.
abbrev pub StepsKeepTruth : Type 0
StepsKeepTruth = (th : Theory) → IsAccepted th → (tb : Table) → IsTable th tb → (r : Rule) (ps : List Sequent) (s : Sequent) → Step th r ps s
    → Each (IsFormed th) ps → Each (IsTrueOn th tb) ps → IsTrueOn th tb s

-- In an accepted theory, what is derivable is true on every table.
abbrev pub DerivableIsTrue : Type 0
DerivableIsTrue = (th : Theory) → IsAccepted th → (s : Sequent) → Derives th s → (tb : Table) → IsTable th tb → IsTrueOn th tb s

-- In an accepted theory False isn't derivable.
abbrev pub FalseIsUnderivable : Type 0
FalseIsUnderivable = (th : Theory) → IsAccepted th → ¬ (Derives th ([] │ [] ⊢ atom (truth false)))

-- From `?1`, a truth value, it isn't derivable that all truth values are True: a variable of a hypothesis can't be generalised.
abbrev pub VariableIsKept : Type 0
VariableIsKept = (th : Theory) → IsAccepted th → ¬ (Derives th (bool ∷ [] │ atom (free 1) ∷ [] ⊢ all bool (atom (bound 0))))

-- The sequent is the draft's conclusion, and what the draft needs is met.
abbrev pub IsDrafted : Theory → Rule → List Sequent → Sequent → Type 0
IsDrafted th r ps s = (ns : List Need) × (draft th r ps ≡ always ns s) × AreMet th ns

-- An instance of a rule is exactly a draft whose needs are met.
abbrev pub StepIsDraft : Type 0
StepIsDraft = (th : Theory) (r : Rule) (ps : List Sequent) (s : Sequent) → Step th r ps s ↔ IsDrafted th r ps s

-- A rule makes one sequent of its premises.
abbrev pub HasOneConclusion : Type 0
HasOneConclusion = (th : Theory) (r : Rule) (ps : List Sequent) (s s' : Sequent) → Step th r ps s → Step th r ps s' → s ≡ s'

-- With a test of what is met, a line's sequent is computed.
abbrev pub ConcludesExactly : Type 0
ConcludesExactly = (th : Theory) (ask : Need → Bool) → Decides th ask → (done : List Sequent) (l : Line) (s : Sequent)
    → (concluded th ask done l ≡ Some s) ↔ IsInstance th done l s

-- Each sequent of a book is derivable.
abbrev pub BooksDerive : Type 0
BooksDerive = (th : Theory) (es : List Entry) → IsBook th es → Each (Derives th) (sequents es)

-- What is derivable ends a book.
abbrev pub DerivableEndsBook : Type 0
DerivableEndsBook = (th : Theory) (s : Sequent) → Derives th s → (es : List Entry) × (e : Entry) × IsBook th (es ++ e ∷ []) × (e.sequent ≡ s)

-- A list of lines is the lines of one book at most, is refused at one place at most, and never both.
abbrev pub OneBook : Type 0
OneBook = (th : Theory) (ls : List Line) (es es' : List Entry) → Passes th ls es → Passes th ls es' → es ≡ es'

abbrev pub OneRefusal : Type 0
OneRefusal = (th : Theory) (ls : List Line) (n n' : ℕ) → IsRefusedAt th ls n → IsRefusedAt th ls n' → n ≡ n'

abbrev pub NeverBoth : Type 0
NeverBoth = (th : Theory) (ls : List Line) (es : List Entry) (n : ℕ) → Passes th ls es → ¬ (IsRefusedAt th ls n)

-- With a test of what is met, it passes or is refused.
abbrev pub PassesOrIsRefused : Type 0
PassesOrIsRefused = (th : Theory) (ask : Need → Bool) → Decides th ask → (ls : List Line)
    → ((es : List Entry) × Passes th ls es) ⊎ ((n : ℕ) × IsRefusedAt th ls n)

-- A derivable sequent never repeats a hypothesis, and lists of hypotheses prove the same theorems as sets.
abbrev pub OnlySetsCount : Type 0
OnlySetsCount = (th : Theory) (G : Context) (H : Hypotheses) (F : Formula) → Derives th (G │ H ⊢ F) ↔ (AreDistinct H × IsTheorem th G H F)

-- What follows from some formulas of the context is a theorem with all of them.
abbrev pub FollowingIsTheorem : Type 0
FollowingIsTheorem = (th : Theory) (G : Context) (H : Hypotheses) (F : Formula) → IsTheorem th G H F ↔ (Each (IsFormula th G) H × Follows th G H F)

-- As sets: the hypotheses of two lists together, and a list's without a formula.
abbrev pub JoinedIsUnion : Type 0
JoinedIsUnion = (H K : Hypotheses) (F : Formula) → IsAmong F (H ∪ K) ↔ (IsAmong F H ⊎ IsAmong F K)

abbrev pub LeftIsDifference : Type 0
LeftIsDifference = (H : Hypotheses) (Q F : Formula) → IsAmong F (H ∖ Q) ↔ (IsAmong F H × (F ≢ Q))

-- A term may be equated with itself exactly where it has a type.
abbrev pub ReflexiveIsTyped : Type 0
ReflexiveIsTyped = (th : Theory) (G : Context) (t : Tree) → IsFormula th G (equation t t) ↔ ((T : Ty) × IsTerm th G t T)

-- So may a term be with what a row makes of it.
abbrev pub SchemaIsTyped : Type 0
SchemaIsTyped = (th : Theory) → IsAccepted th → (G : Context) → IsContext th G → (k : ℕ) (t u : Tree) → row th k t ≡ Some u
    → IsFormula th G (equation t u) ↔ ((T : Ty) × IsTerm th G t T)

-- A formula of the empty context is one of any context that has no variable.
abbrev pub EmptyHasNoVariable : Type 0
EmptyHasNoVariable = (th : Theory) (G : Context) (t : Tree) → IsFormula th [] (atom t) ↔ (IsFormula th G (atom t) × ((n : ℕ) → uses n t ≡ false))

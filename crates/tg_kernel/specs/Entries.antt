-- The program's lines with their sequents as those of the calculus.
use Rattle.std.specs.Prelude.{ℕ, ◌≡◌, List, map, Option, Some, None}
use Rattle.tg_model.specs.Formula.{Sequent}
use Rattle.tg_model.specs.Theory.{Theory, numbered}
use Rattle.tg_calculus.specs.Book as calculus
use Rattle.tg_calculus.specs.Book.{Line, IsInstance, sequents, lines}
use Rattle.tg_kernel.specs.Books.{Book, IsLine, IsAppended, IsNone, rule_number}
use Rattle.tg_kernel.specs.declared.theorems.Thm.{Thm}
use Rattle.tg_kernel.specs.declared.errors.StepErr.{StepErr}
use Rattle.tg_kernel.specs.declared.errors.StepErr.TheVariants.{Bad, Memory}
use Rattle.tg_kernel.specs.Rules.{as_line}
use Rattle.tg_kernel.specs.Sequents.{sequent}
use Rattle.tg_kernel.specs.declared.concluding.Entry.{Entry}

abbrev pub entry : Entry → calculus.Entry
entry e = record { line = as_line e.line; sequent = sequent e.sequent }

abbrev pub book_of : Theory → List Entry → Book
book_of th es = record { theory = th; entries = map entry es }

-- the line gives the sequent, or none
abbrev pub Concludes : Theory → List calculus.Entry → Line → Option Sequent → Type 0
Concludes th es l (Some s) = IsInstance th (sequents es) l s
Concludes th es l None = (s : Sequent) → ¬ (IsInstance th (sequents es) l s)

abbrev pub number : Thm → ℕ
number t = t.0

abbrev pub IsThere : Book → Thm → Type 0
IsThere b t = IsLine b (number t)

abbrev pub sequent_of : Book → Thm → Option Sequent
sequent_of b t = numbered (sequents b.entries) (number t)

abbrev pub line_of : Book → Thm → Option Line
line_of b t = numbered (lines b.entries) (number t)

abbrev pub Appends : Book → Book → Line → Thm → Type 0
Appends old new l t = IsAppended old new l (number t)

-- `Bad` with the rule's number exactly where the line is no instance; want of memory says nothing
abbrev pub Refuses : Book → Line → StepErr → Type 0
Refuses b l (Bad r) = (r ≡ rule_number l.rule) × IsNone b l
Refuses b l Memory = Unit {0}

abbrev pub numbers : List Thm → List ℕ
numbers ts = map number ts

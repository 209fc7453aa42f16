-- What is written is read back: the text of a type, a value, a term or a formula is a text of the grammar, which means the same with
-- the names of what it uses.
use Rattle.std.specs.Prelude.{◌≡◌, ℕ, List, length}
use Rattle.tg_model.specs.Theory.{Theory, IsClosed}
use Rattle.tg_model.specs.Accepted.{IsAccepted}
use Rattle.tg_model.specs.TermTyping.{IsTyped, IsWellFormed}
use Rattle.tg_model.specs.Types.{Ty}
use Rattle.tg_model.specs.Tree.{Tree}
use Rattle.tg_model.specs.Formula as model
use Rattle.tg_model.specs.Value as values
use Rattle.tg_grammar.specs.Seen.{Seen}
use Rattle.tg_grammar.specs.Parts.{Part, Value, TypeAtom, AnswerAtom, Atom, Formula, in_certificate}
use Rattle.tg_grammar.specs.Reading.{IsText}
use Rattle.tg_theory.specs.Wholes.{IsWritten}
use Rattle.tg_render.specs.Render.{render}
use Rattle.tg_render.specs.Laws.{HasTokens}
use Rattle.tg_report.specs.TypeTexts.{ty_tokens}
use Rattle.tg_report.specs.ValueTexts.{value_tokens}
use Rattle.tg_report.specs.TermTexts.{term_tokens}
use Rattle.tg_report.specs.FormulaTexts.{formula_tokens}
use Rattle.tg_report.specs.RawTypes.{raw_ty}
use Rattle.tg_report.specs.RawValues.{raw_value, IsNamed}
use Rattle.tg_report.specs.RawTerms.{raw_term, HasText}
use Rattle.tg_report.specs.SmallNumbers.{HasSmallNumbers, FormulaHasSmallNumbers}
use Rattle.tg_report.specs.RawFormulas.{raw_formula, FormulaHasText}

-- The bytes have these tokens, which are a text of the part with this value.
abbrev pub IsReadBack : (n : Part) → Value n → List Seen → Type 0
IsReadBack n v ts = HasTokens (render ts) ts × IsText n v ts

-- The text of a closed type is read as the type,
abbrev pub TypesReadBack : Type 0
TypesReadBack = (th : Theory) (t : Ty) → IsWritten th → IsClosed th t → IsReadBack TypeAtom (raw_ty th t) (ty_tokens th t)

-- that of a value as the value,
abbrev pub ValuesReadBack : Type 0
ValuesReadBack = (th : Theory) (v : values.Value) → IsWritten th → IsNamed th v → IsReadBack AnswerAtom (raw_value th v) (value_tokens th v)

-- that of a term within `level` binders as the term,
abbrev pub TermsReadBack : Type 0
TermsReadBack = (th : Theory) (level : ℕ) (t : Tree) → IsWritten th → HasText th level t
    → IsReadBack (Atom in_certificate) (raw_term th level t) (term_tokens th level t)

-- and that of a formula as the formula.
abbrev pub FormulasReadBack : Type 0
FormulasReadBack = (th : Theory) (level : ℕ) (f : model.Formula) → IsWritten th → FormulaHasText th level f
    → IsReadBack Formula (raw_formula th level f) (formula_tokens th level f)

-- In an accepted theory two closed types with one text are equal,
abbrev pub TellsTypes : Type 0
TellsTypes = (th : Theory) (t u : Ty) → IsAccepted th → IsWritten th → IsClosed th t → IsClosed th u
    → render (ty_tokens th t) ≡ render (ty_tokens th u) → t ≡ u

-- and so are two values,
abbrev pub TellsValues : Type 0
TellsValues = (th : Theory) (v w : values.Value) → IsAccepted th → IsWritten th → IsNamed th v → IsNamed th w
    → render (value_tokens th v) ≡ render (value_tokens th w) → v ≡ w

-- two terms within the same number of binders,
abbrev pub TellsTerms : Type 0
TellsTerms = (th : Theory) (level : ℕ) (t u : Tree) → IsAccepted th → IsWritten th → HasText th level t → HasText th level u
    → render (term_tokens th level t) ≡ render (term_tokens th level u) → t ≡ u

-- and two formulas.
abbrev pub TellsFormulas : Type 0
TellsFormulas = (th : Theory) (level : ℕ) (f g : model.Formula) → IsAccepted th → IsWritten th → FormulaHasText th level f → FormulaHasText th level g
    → render (formula_tokens th level f) ≡ render (formula_tokens th level g) → f ≡ g

-- A typed term with small numbers has a text, and so has a well-formed formula.
abbrev pub TypedHasText : Type 0
TypedHasText = (th : Theory) (vars locs : List Ty) (t : Tree) (u : Ty) → IsAccepted th → IsTyped th vars locs t u
    → HasSmallNumbers (length locs) t → HasText th (length locs) t

abbrev pub WellFormedHasText : Type 0
WellFormedHasText = (th : Theory) (vars locs : List Ty) (f : model.Formula) → IsAccepted th → IsWellFormed th vars locs f
    → FormulaHasSmallNumbers (length locs) f → FormulaHasText th (length locs) f

-- Pieces of rules that have readers of their own.
use Rattle.std.specs.Prelude.{ℕ, List, [], ◌∷◌, ◌++◌}
use Rattle.tg_rules.specs.Rule.{nt, ◌∙∙◌}
use Rattle.tg_rules.specs.Reader.{Read, mapped}
use Rattle.tg_grammar.specs.declared.types.RawTy.{RawTy}
use Rattle.tg_grammar.specs.Making.{applied, bracketed}
use Rattle.tg_grammar.specs.declared.terms.RawTerm.{RawTerm}
use Rattle.tg_grammar.specs.declared.formulas.RawFormula.{RawFormula}
use Rattle.tg_grammar.specs.Notation.{◌▸◌, some}
use Rattle.tg_grammar.specs.Parts.{TypeAtom, WholeType, MoreTypes, MoreResults, AfterType, Mode, Term, Formula}
use Rattle.tg_grammar.specs.Reading.{reads}
use Rattle.tg_grammar.specs.Seen.{Seen}
use Rattle.tg_reading.specs.Answers.{behind, by_rule, optional_text}

-- types with commas between them, and with `=>`
abbrev pub types_by_commas : List Seen → Read Seen (List RawTy)
types_by_commas = by_rule (some (nt WholeType ∙∙ nt MoreTypes))

abbrev pub types_by_arrows : List Seen → Read Seen (List RawTy)
types_by_arrows = by_rule (some (nt WholeType ∙∙ nt MoreResults))

-- a type, or the name that is next applied to it
abbrev pub named : RawTy → List Seen → Read Seen RawTy
named ty ts = mapped (applied ty) (optional_text ts)

-- what stands behind the first type in brackets
abbrev pub behind_first : RawTy → List Seen → Read Seen RawTy
behind_first first ts = mapped (λ x. bracketed first x.0 x.1) (reads AfterType ts)

-- what stands behind `ALL` and `EX`
abbrev pub quantified : List Seen → Read Seen (RawTy × RawFormula)
quantified = by_rule (nt TypeAtom ∙∙ "." ▸ nt Formula)

-- a token of this kind and a term, which is added to the list
unfoldable pub term_added : Mode → ℕ → List RawTerm → List Seen → Read Seen (List RawTerm)
term_added m k front ts = mapped (λ t. front ++ t ∷ []) (behind k (reads (Term m)) ts)

-- What the grammar reads in the text of a certificate: lines that say those of the book.
use Rattle.std.specs.Prelude.{ℕ, suc, ◌<◌, ◌^◌, List, [], ◌∷◌, ◌++◌, map, Option, Some, None, option_map}
use Rattle.tg_model.specs.Accepted.{IsAccepted}
use Rattle.tg_model.specs.Formula.{Formula}
use Rattle.tg_model.specs.Theory.{Theory}
use Rattle.tg_model.specs.Tree.{Tree, elements}
use Rattle.tg_calculus.specs.Book.{Line, Entry, IsBook}
use Rattle.tg_calculus.specs.Book as book
use Rattle.tg_calculus.specs.Rule as rule
use Rattle.tg_calculus.specs.Rule.{Rule}
use Rattle.tg_grammar.specs.declared.certificates.RawLine.{RawLine}
use Rattle.tg_grammar.specs.Parts.{Certificate}
use Rattle.tg_grammar.specs.Reading.{IsText}
use Rattle.tg_kernel.specs.Books.{rule_number}
use Rattle.tg_render.specs.Laws.{HasTokens}
use Rattle.tg_render.specs.Render.{lines}
use Rattle.tg_render.specs.Tokens.{joined}
use Rattle.tg_report.specs.RawFormulas.{raw_formula}
use Rattle.tg_report.specs.RawTerms.{raw_term}
use Rattle.tg_report.specs.RawTypes.{raw_ty}
use Rattle.tg_report.specs.SmallNumbers.{HasSmallNumbers, FormulaHasSmallNumbers}
use Rattle.tg_theory.specs.Wholes.{IsWritten}
use Rattle.tg_cert.specs.Arguments.{Arguments}
use Rattle.tg_cert.specs.Certificates.{AreEntries}
use Rattle.tg_cert.specs.CertificateTexts.{row_name, certificate_lines}

abbrev pub none : Arguments
none = record { types = []; row = None; formula = None; terms = []; number = 0 }

abbrev pub arguments_in : Rule → Arguments
arguments_in (rule.hyp G F) = record none { types = G; formula = Some F }
arguments_in (rule.weak F) = record none { formula = Some F }
arguments_in (rule.grow Ts) = record none { types = Ts }
arguments_in (rule.imp_i F) = record none { formula = Some F }
arguments_in (rule.all_e t) = record none { terms = t ∷ [] }
arguments_in (rule.ex_i F t) = record none { formula = Some F; terms = t ∷ [] }
arguments_in (rule.truth G) = record none { types = G }
arguments_in (rule.falsity F) = record none { formula = Some F }
arguments_in (rule.split t) = record none { terms = t ∷ [] }
arguments_in (rule.reflexive G t) = record none { types = G; terms = t ∷ [] }
arguments_in (rule.replace F) = record none { formula = Some F }
arguments_in (rule.schema G k t) = record none { types = G; row = Some k; terms = t ∷ [] }
arguments_in (rule.exhaust n) = record none { number = n }
arguments_in (rule.deep G k ts) = record none { types = G; number = k; terms = elements ts }
arguments_in (rule.compute G t) = record none { types = G; terms = t ∷ [] }
arguments_in r = none

-- a number that stands before those of the premises
abbrev pub first_numbers : Rule → List ℕ
first_numbers (rule.exhaust n) = n ∷ []
first_numbers (rule.deep G k ts) = k ∷ []
first_numbers r = []

abbrev pub raw_line : Theory → ℕ → Line → RawLine
raw_line th n l =
    let a = arguments_in l.rule in
    record {
      number = n;
      rule = rule_number l.rule;
      nums = first_numbers l.rule ++ l.premises;
      vars = map (raw_ty th) a.types;
      word = option_map row_name a.row;
      formula = option_map (raw_formula th 0) a.formula;
      terms = map (raw_term th 0) a.terms;
    }

-- the lines, the first of which has the number `n`
abbrev pub raw_lines : Theory → ℕ → List Line → List RawLine
raw_lines th n [] = []
raw_lines th n (l ∷ ls) = raw_line th n l ∷ raw_lines th (suc n) ls

-- ---- numbers below 2^64

abbrev pub AreBelow : List ℕ → Type 0
AreBelow [] = Unit {0}
AreBelow (n ∷ ns) = (n < 2 ^ 64) × AreBelow ns

abbrev pub HaveSmallNumbers : List Tree → Type 0
HaveSmallNumbers [] = Unit {0}
HaveSmallNumbers (t ∷ ts) = HasSmallNumbers 0 t × HaveSmallNumbers ts

abbrev pub MayHaveSmallNumbers : Option Formula → Type 0
MayHaveSmallNumbers None = Unit {0}
MayHaveSmallNumbers (Some F) = FormulaHasSmallNumbers 0 F

pub record IsSmall (l : Line) : Type 0 where
  pub formula : MayHaveSmallNumbers (arguments_in l.rule).formula
  pub terms : HaveSmallNumbers (arguments_in l.rule).terms
  pub number : (arguments_in l.rule).number < 2 ^ 64
  pub premises : AreBelow l.premises

abbrev pub AreSmall : ℕ → List Line → Type 0
AreSmall n [] = Unit {0}
AreSmall n (l ∷ ls) = (n < 2 ^ 64) × IsSmall l × AreSmall (suc n) ls

-- ---- laws

-- In a theory whose names are words that aren't reserved, the text of a book's lines is a text of the grammar,
abbrev pub CertificatesAreTexts : Type 0
CertificatesAreTexts = (th : Theory) → IsAccepted th → IsWritten th → (es : List Entry) → IsBook th es → AreSmall 1 (book.lines es)
    → HasTokens (lines (certificate_lines th (book.lines es))) (joined (certificate_lines th (book.lines es)))
    × IsText Certificate (record { lines = raw_lines th 1 (book.lines es) }) (joined (certificate_lines th (book.lines es)))

-- and its lines say those of the book, with their sequents.
abbrev pub LinesReadBack : Type 0
LinesReadBack = (th : Theory) → IsAccepted th → (es : List Entry) → IsBook th es → AreSmall 1 (book.lines es)
    → AreEntries th [] (raw_lines th 1 (book.lines es)) es

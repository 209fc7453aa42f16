-- The steps of a certificate: the 26 rules of the calculus, each with its arguments.
use Prim.Native.String.{String}
use Rattle.std.specs.Prelude.{Some, List, [], ◌∷◌}
use Rattle.tg_rules.specs.Rule.{tok, nt, ◌∙∙◌}
use Rattle.tg_grammar.specs.declared.certificates.Argument.{Argument}
use Rattle.tg_grammar.specs.declared.certificates.Argument.TheVariants.{Context, Formula, Atom, Atoms, Number, Numbers, Word}
use Rattle.tg_grammar.specs.declared.certificates.RawLine.{RawLine}
use Rattle.tg_grammar.specs.Making.{no_arguments, with_arguments, of_rule}
use Rattle.tg_grammar.specs.Notation.{Grammar, quoted, ◌⇒◌, ◌∣◌, word, number}
use Rattle.tg_grammar.specs.Parts as parts

-- the name of a rule, and its arguments, of which there is one at least
pub record RuleRow : Type 0 where
  pub name : String
  pub first : Argument
  pub others : List Argument

infix 40 ◌takes◌also◌
abbrev pub ◌takes◌also◌ : String → Argument → List Argument → RuleRow
name takes first also others = record { name = name; first = first; others = others }

-- the first of the rules, and the others in their order
abbrev pub first_row : RuleRow
first_row = "hyp" takes Context also (Formula ∷ [])

abbrev pub other_rows : List RuleRow
other_rows = ("weak" takes Number also (Formula ∷ []))
    ∷ ("cut" takes Number also (Number ∷ []))
    ∷ ("grow" takes Number also (Context ∷ []))
    ∷ ("andI" takes Number also (Number ∷ []))
    ∷ ("andL" takes Number also [])
    ∷ ("andR" takes Number also [])
    ∷ ("impI" takes Number also (Formula ∷ []))
    ∷ ("mp" takes Number also (Number ∷ []))
    ∷ ("allI" takes Number also [])
    ∷ ("allE" takes Number also (Atom ∷ []))
    ∷ ("exI" takes Number also (Formula ∷ Atom ∷ []))
    ∷ ("exE" takes Number also (Number ∷ []))
    ∷ ("thypI" takes Number also [])
    ∷ ("thypE" takes Number also [])
    ∷ ("true" takes Context also [])
    ∷ ("false" takes Number also (Formula ∷ []))
    ∷ ("split" takes Number also (Number ∷ Atom ∷ []))
    ∷ ("refl" takes Context also (Atom ∷ []))
    ∷ ("sym" takes Number also [])
    ∷ ("trans" takes Number also (Number ∷ []))
    ∷ ("replace" takes Number also (Number ∷ Formula ∷ []))
    ∷ ("schema" takes Context also (Word ∷ Atom ∷ []))
    ∷ ("exhaust" takes Number also (Number ∷ Numbers ∷ []))
    ∷ ("deep" takes Context also (Number ∷ Atom ∷ Atoms ∷ []))
    ∷ ("compute" takes Context also (Atom ∷ []))
    ∷ []

-- the line with this argument alone
abbrev pub argument : Argument → Grammar RawLine
argument Context = nt parts.Context ⇒ λ ts. record no_arguments { vars = ts }
argument Formula = nt parts.Formula ⇒ λ f. record no_arguments { formula = Some f }
argument Atom = nt (parts.Atom parts.in_certificate) ⇒ λ t. record no_arguments { terms = t ∷ [] }
argument Atoms = nt (parts.Atoms parts.in_certificate) ⇒ λ ts. record no_arguments { terms = ts }
argument Number = number ⇒ λ n. record no_arguments { nums = n ∷ [] }
argument Numbers = nt parts.Numbers ⇒ λ ns. record no_arguments { nums = ns }
argument Word = word ⇒ λ w. record no_arguments { word = Some w }

abbrev pub arguments : Argument → List Argument → Grammar RawLine
arguments a [] = argument a
arguments a (b ∷ bs) = argument a ∙∙ arguments b bs ⇒ λ x. with_arguments x.0 x.1

abbrev pub row : RuleRow → Grammar RawLine
row r = tok (quoted r.name) [] ∙∙ arguments r.first r.others ⇒ λ x. of_rule x.0.kind x.1

abbrev pub rows : RuleRow → List RuleRow → Grammar RawLine
rows r [] = row r
rows r (s ∷ ss) = row r ∣ rows s ss

-- one of the rules and its arguments
abbrev pub step : Grammar RawLine
step = rows first_row other_rows

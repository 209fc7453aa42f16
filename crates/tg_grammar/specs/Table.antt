-- The grammar in a form that is read with one token of foresight. It differs from the page where two texts of a part begin with
-- the same tokens: there what they begin with is read first.
use Rattle.tg_rules.specs.Rule.{nt, opt, ◌∙∙◌}
use Rattle.tg_grammar.specs.declared.terms.RawTerm.TheVariants as terms
use Rattle.tg_grammar.specs.Operators.{suc_operator}
use Rattle.tg_grammar.specs.Notation.{Grammar, ◌▸◌, ◌◂◌, ◌⇒◌, ◌∣◌, word}
use Rattle.tg_grammar.specs.Parts.{Part, Value, WholeType, SimpleType, AfterType, Application, Atoms, PlainAtom}
use Rattle.tg_grammar.specs.Parts.{Answer, AnswerAtoms, PlainAnswer, Formula, InnerFormula}
use Rattle.tg_grammar.specs.Making.{applied, bracketed}
use Rattle.tg_grammar.specs.Page.{page, arguments, term_formula}

abbrev pub table : (n : Part) → Grammar (Value n)
table WholeType =
    ("(" ▸ nt WholeType ∙∙ nt AfterType ⇒ λ x. bracketed x.0 x.1.0 x.1.1)
    ∣ (nt SimpleType ∙∙ opt word ⇒ λ x. applied x.0 x.1)
table (Application m) =
    ("Suc" ▸ arguments m ⇒ λ ts. terms.Op suc_operator ts)
    ∣ nt (PlainAtom m)
    ∣ (word ∙∙ nt (Atoms m) ⇒ λ x. terms.Use x.0 x.1)
table Answer = nt PlainAnswer ∣ (word ∙∙ nt AnswerAtoms ⇒ λ x. terms.Use x.0 x.1)
table Formula = term_formula ∣ ("(" ▸ nt InnerFormula ◂ ")")
table n = page n

-- Two parts that the page doesn't need: what stands behind what two texts of a part have in common.
use Rattle.std.specs.Prelude.{ℕ, Some, List, [], Option}
use Rattle.tg_rules.specs.Rule.{nt, opt, ◌∙∙◌}
use Rattle.tg_grammar.specs.declared.types.RawTy.{RawTy}
use Rattle.tg_grammar.specs.declared.formulas.RawFormula.{RawFormula}
use Rattle.tg_grammar.specs.Operators.{and_operator, implies_operator}
use Rattle.tg_grammar.specs.Notation.{Grammar, ◌▸◌, ◌⇒◌, ◌∣◌, ◌means◌, word, some}
use Rattle.tg_grammar.specs.Parts.{WholeType, MoreTypes, Formula, MarkedFormula}
use Rattle.tg_grammar.specs.Making.{connected}

abbrev pub more_types : Grammar (List RawTy)
more_types = some (nt WholeType ∙∙ nt MoreTypes)

-- behind the first type in brackets: the further types, and the name behind them
abbrev pub after_type : Grammar (List RawTy × Option (List ℕ))
after_type =
    (")" ▸ opt word ⇒ λ w. ([], w))
    ∣ ("," ▸ more_types ∙∙ ")" ▸ word ⇒ λ x. (x.0, Some x.1))

abbrev pub connective : Grammar ℕ
connective = ("&" means and_operator) ∣ ("-->" means implies_operator)

-- what stands in the round brackets of a formula
abbrev pub inner_formula : Grammar RawFormula
inner_formula = nt MarkedFormula ∣ (nt Formula ∙∙ connective ∙∙ nt Formula ⇒ λ x. connected x.0 x.1.0 x.1.1)

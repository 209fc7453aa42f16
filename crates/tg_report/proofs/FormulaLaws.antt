-- What formulas are written with.
use Rattle.std.proofs.Common.{◌≡◌, ℕ, ◌+◌, List, ap, ◌∙◌}
use Rattle.std.specs.Prelude.{codes}
use Rattle.tg_model.specs.Theory.{Theory}
use Rattle.tg_model.specs.Types.{Ty}
use Rattle.tg_model.specs.Formula as model
use Rattle.tg_model.specs.Formula.{Formula}
use Rattle.tg_grammar.specs.Kinds.{all_word, exists_word}
use Rattle.tg_render.specs.Render.{written}
use Rattle.tg_render.specs.Tokens.{mark}
use Rattle.tg_report.specs.TypeTexts.{ty_tokens}
use Rattle.tg_report.specs.FormulaTexts.{formula_tokens, quantified}
use Rattle.tg_report.proofs.Chains.{one, some, inside}

-- with the kind of its quantifier
pub all_written : (th : Theory) (level : ℕ) (old next : List ℕ) (t : Ty) (f g : Formula) → model.all t f ≡ g
    → ((kind : ℕ) → next ≡ written old (quantified (mark kind (codes "ALL")) (ty_tokens th t) (formula_tokens th (level + 1) f)))
    → next ≡ written old (formula_tokens th level g)
all_written th level old next t f g e h = h all_word ∙ ap (λ x. written old (formula_tokens th level x)) e

pub some_written : (th : Theory) (level : ℕ) (old next : List ℕ) (t : Ty) (f g : Formula) → model.some t f ≡ g
    → ((kind : ℕ) → next ≡ written old (quantified (mark kind (codes "EX")) (ty_tokens th t) (formula_tokens th (level + 1) f)))
    → next ≡ written old (formula_tokens th level g)
some_written th level old next t f g e h = h exists_word ∙ ap (λ x. written old (formula_tokens th level x)) e

pub ruleset writing = (one, some, inside)

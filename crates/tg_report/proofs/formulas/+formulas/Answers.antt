use Rattle.std.proofs.Common.{◌∙◌, sym, ap}
use Rattle.std.proofs.lemmas.Result.{on_ok_weaker}
use Rattle.tg_term.specs.Formulas.{formula}
use Rattle.tg_report.proofs.FormulaLaws.{all_written, some_written}
use Rattle.tg_report.proofs.formulas.+formulas.Goals as goal

pub put_formula_at-returns-in-All : goal.put_formula_at-returns-in-All
put_formula_at-returns-in-All t c =
    on_ok_weaker _ (all_written _ _ _ _ _ _ _ (ap formula (sym c.in-All.is) ∙ c.node.ensures)) c.put_quantified.ensures

pub put_formula_at-returns-in-Ex : goal.put_formula_at-returns-in-Ex
put_formula_at-returns-in-Ex t c =
    on_ok_weaker _ (some_written _ _ _ _ _ _ _ (ap formula (sym c.in-Ex.is) ∙ c.node.ensures)) c.put_quantified-in-Ex.ensures

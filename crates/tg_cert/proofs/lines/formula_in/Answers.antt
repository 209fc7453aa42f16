use Rattle.std.proofs.Common.{◌≡◌, ◌∙◌, Option, Some, sym, ap, subst}
use Rattle.tg_model.specs.Formula.{Formula}
use Rattle.tg_accept.specs.Standing.{IsAnswer}
use Rattle.tg_standing.specs.Formulas.{raw_formula, IsFormulaIn}
use Rattle.tg_cert.proofs.PairLaws.{formula_none}
use Rattle.tg_cert.proofs.lines.formula_in.Goals as goal

pub returns-in-None : goal.returns-in-None
returns-in-None c =
    let named : c.args.raw.now ≡ Some c.get.result.now = c.in-Some.is ∙ ap Some (sym c.get.ensures) in
    formula_none c.args.th.now c.args.context.now c.types.result.now c.types.ensures c.requires.closed c.args.raw.now c.get.result.now named
    (subst (λ (o : Option Formula). IsAnswer (IsFormulaIn c.args.th.now c.types.result.now (raw_formula c.get.result.now)) o) c.in-None.is c.in_ok-f.ensures)

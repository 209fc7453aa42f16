use Rattle.std.proofs.Common.{[], map, sym, ap, ◌∙◌, subst}
use Rattle.tg_model.specs.Formula.{Formula}
use Rattle.tg_calculus.specs.Sequent.{Hypotheses}
use Rattle.tg_calculus.specs.Theorem.{IsTheorem}
use Rattle.tg_hyps.specs.Hypotheses.{seen}
use Rattle.tg_derive.specs.Answers.{choice_of, hypothesis}
use Rattle.tg_derive.specs.Theorem.{formulas, hypotheses_of}
use Rattle.tg_derive.proofs.TheoremEnd.{theorem_is_derivable}
use Rattle.tg_derive.proofs.theorems.goal.Goals as goal

pub returns-clause-derivable : goal.returns-clause-derivable
returns-clause-derivable c = λ low are computed.
    let th = c.args.th.now in
    let cs = map seen c.args.classes.now in
    let xs = map choice_of c.args.choices.now in
    let given = formulas (hypotheses_of th c.args.depth cs xs) in
    let same = c.in_ok-new-2.ensures ∙ c.in_ok-hyps.ensures ∙ ap (λ hs. formulas (map hypothesis hs)) c.as_slice.ensures.value ∙ ap formulas c.in_ok-hs.ensures in
    subst (λ (H : Hypotheses). IsTheorem th [] H c.in_ok-goal.goal) (sym same)
    (subst (λ (F : Formula). IsTheorem th [] given F) (sym c.in_ok-goal.ensures)
    (theorem_is_derivable th c.args.depth cs xs c.accepted.ensures.accepted low are computed))

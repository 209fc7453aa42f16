use Rattle.tg_theory.proofs.Terms.{cases_uneven}
use Rattle.tg_theory.proofs.shapes.are_cases_shaped.Goals as goal

pub returns-then-cases-cons : goal.returns-then-cases-cons
returns-then-cases-cons c =
    cases_uneven c.args.own.now.function c.args.own.now.place c.args.own.now.others c.args.d c.args.cases.now c.args.cons.now c.if-cases-cons.true

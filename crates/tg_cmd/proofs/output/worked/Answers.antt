use Rattle.tg_model.specs.Theory.{Theory}
use Rattle.tg_cmd.specs.declared.output.Output as code
use Rattle.tg_cmd.specs.Answers.{answer_after}
use Rattle.tg_cmd.specs.Causes.{accepted}
use Rattle.tg_cmd.specs.Ends.{IsTheoryLine}
use Rattle.tg_cmd.specs.Output.{OfClasses, Makes, OfTheory}
use Rattle.tg_cmd.proofs.Outputs.{mapped_ok, unaccepted}
use Rattle.tg_cmd.proofs.output.worked.Goals as goal

pub returns-in-Ok : goal.returns-in-Ok
returns-in-Ok c =
    let s = c.args.settings.now in
    let th = c.in-Ok.theory in
    mapped_ok (λ (o : code.Output). OfClasses (Makes c.args.task.now s th) s.depth th (answer_after o.ending) o.text.items)
    (λ (o : code.Output). OfTheory (Makes c.args.task.now) s c.args.read.now (answer_after o.ending) o.text.items) c.worked_theory.result
    (λ o h. accepted th c.in-Ok.ensures.accepted h) c.worked_theory.ensures

pub returns-in-Err : goal.returns-in-Err
returns-in-Err c =
    let s = c.args.settings.now in
    mapped_ok (λ (o : code.Output). IsTheoryLine c.in-Err.error (answer_after o.ending) o.text.items)
    (λ (o : code.Output). OfTheory (Makes c.args.task.now) s c.args.read.now (answer_after o.ending) o.text.items) c.unaccepted.result
    (λ o h. unaccepted (λ (th : Theory). OfClasses (Makes c.args.task.now s th) s.depth th) c.args.read.now c.in-Err.error (answer_after o.ending) o.text.items
    c.in-Err.ensures.refused h) c.unaccepted.ensures
